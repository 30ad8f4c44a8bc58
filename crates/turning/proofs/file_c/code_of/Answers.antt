-- `turning::file_c::code_of` meets its contract. Assumes nothing.
use mathlib.Core.Path.{sym, ◌∙◌}
use Rattle.floats.specs.Pick.{pick_true, pick-false}
use Rattle.turning.proofs.file_c.code_of.Goals as goal

pub returns-then-refused : goal.returns-then-refused
returns-then-refused c = c.number.ensures ∙ sym (pick_true _ _ _ c.if-refused.true)

pub returns : goal.returns
returns c = sym (pick-false _ _ _ c.if-refused.false)
