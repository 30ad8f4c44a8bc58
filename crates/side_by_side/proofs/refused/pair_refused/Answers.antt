-- `side_by_side::refused::pair_refused` meets its contract. Assumes nothing.
use native.Mathlib.Omega.{arith}
use mathlib.Core.Path.{refl, ◌∙◌}
use Rattle.side_by_side.proofs.Refusing.{as-pair, pair-number}
use Rattle.side_by_side.proofs.refused.pair_refused.Goals as goal

pub returns-in-Ok : goal.returns-in-Ok
returns-in-Ok c = as-pair c.in-Ok.is (record { wrote = record { text = refl; end = refl }; within = omega arith })

pub returns-in-Err : goal.returns-in-Err
returns-in-Err c = pair-number _ _ _ c.in-Err.is (c.from.ensures ∙ c.number.ensures) c.refused_one.ensures
