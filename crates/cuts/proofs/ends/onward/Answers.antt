-- `cuts::ends::onward` meets its contract. Assumes nothing.
use mathlib.Core.Path.{sym, ◌∙◌}
use Rattle.cuts.proofs.Grades.{onward-in, onward-past}
use Rattle.cuts.proofs.ends.onward.Goals as goal

pub returns-then-g-n : goal.returns-then-g-n
returns-then-g-n c = c.passed.ensures ∙ sym (onward-in _ _ _ _ _ _ c.if-g-n.true)

pub returns : goal.returns
returns c = sym (onward-past _ _ _ _ _ _ c.if-g-n.false)
