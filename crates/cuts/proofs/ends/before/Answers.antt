-- `cuts::ends::before` meets its contract. Assumes nothing.
use mathlib.Core.Path.{sym, ◌∙◌}
use Rattle.cuts.proofs.Grades.{before-none, before-some}
use Rattle.cuts.proofs.ends.before.Goals as goal

pub returns-then-g-eq0 : goal.returns-then-g-eq0
returns-then-g-eq0 c = sym (before-none _ _ _ _ _ c.if-g-eq0.true)

pub returns : goal.returns
returns c = c.passed.ensures ∙ sym (before-some _ _ _ _ _ c.if-g-eq0.false)
