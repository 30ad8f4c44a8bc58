-- `side_by_side::refused::file_refused` meets its contract. Assumes nothing.
use Rattle.std.proofs.Common.{refl, ◌∙◌, arith}
use Rattle.side_by_side.proofs.Refusing.{as-file, file-number, file-place}
use Rattle.side_by_side.proofs.refused.file_refused.Goals as goal

pub returns-in-Ok : goal.returns-in-Ok
returns-in-Ok c = as-file _ c.in-Ok.is (record { wrote = record { text = refl; end = refl }; within = omega arith })

pub returns-in-None : goal.returns-in-None
returns-in-None c = file-number _ _ _ _ c.in-Err.is c.in-None.is (c.from-n.ensures ∙ c.number.ensures) c.refused_line.ensures

pub returns-in-Some : goal.returns-in-Some
returns-in-Some c = file-place _ _ _ _ _ c.in-Err.is c.in-Some.is (c.from-n.ensures ∙ c.number.ensures) c.refused_three.ensures
