-- `chop_lines::number::sag_up` meets its contract. Assumes nothing.
use Rattle.std.proofs.Common.{sym, ap, ◌∙◌, arith}
use Rattle.chop_lines.specs.Spelled.{up_by}
use Rattle.chop_lines.proofs.Putting.{up-within}
use Rattle.chop_lines.proofs.number.sag_up.Goals as goal

pub overflow_add-result : goal.overflow_add-result
overflow_add-result c = omega (arith, up-within _ _ _ (sym c.whole_up.ensures ∙ c.in-Some.is))

pub returns-in-Some : goal.returns-in-Some
returns-in-Some c = ap up_by (sym (c.in-Some.is) ∙ c.whole_up.ensures)

pub returns-in-None : goal.returns-in-None
returns-in-None c = ap up_by (sym (c.in-None.is) ∙ c.whole_up.ensures)
