-- `passes::decide_kept` meets its contract. Assumes nothing.
use mathlib.Core.Path.{◌∙◌}
use Rattle.passes.proofs.Verdicts.{decided-kept}
use Rattle.passes.proofs.decide_kept.Goals as goal

pub returns : goal.returns
returns c = let a = c.args in
    decided-kept a.stock a.cells.now _ _ _ a.after_blocks.now _ _ a.n c.decide-verdict.ensures c.clean_spec-s.ensures c.renew_all.ensures (c.decide-verdict.auto.after ∙ c.requires.2 ∙ c.requires.3) c.requires.4
