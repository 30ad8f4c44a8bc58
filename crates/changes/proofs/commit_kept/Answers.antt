-- `changes::commit_kept` meets its contract. Assumes nothing.
use mathlib.Core.Path.{refl}
use Rattle.changes.proofs.Kept.{then-renewed, then-left}
use Rattle.changes.proofs.commit_kept.Goals as goal

pub returns-in_err-after : goal.returns-in_err-after
returns-in_err-after c = then-left _ _ _ _ _ _ _ _ _ _ c.from_residual.ensures.1 c.in_err-after.ensures

pub returns : goal.returns
returns c = let a = c.args in
    then-renewed a.stock a.n _ _ _ _ a.blocks.now _ a.indices.now a.k _ c.in_ok-after.ensures c.renew_changed.ensures c.clean_spec-s.ensures refl
