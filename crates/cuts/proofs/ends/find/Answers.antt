-- `cuts::ends::find` meets its contract. Assumes nothing.
use mathlib.Core.Path.{sym, ◌∙◌}
use native.Mathlib.Omega.{arith}
use borrow.Author.Rules.{rules}
use Rattle.cuts.proofs.Grades.{before-next, onward-lt, split}
use Rattle.cuts.proofs.ends.find.Goals as goal

pub overflow_add-g : goal.overflow_add-g
overflow_add-g c = omega (arith, (onward-lt _ _ _ _ _ _ (sym c.onward.ensures ∙ c.loop-s-test.true)).0)

pub loop-s-smaller : goal.loop-s-smaller
loop-s-smaller c = omega (arith, (onward-lt _ _ _ _ _ _ (sym c.onward.ensures ∙ c.loop-s-test.true)).0)

pub loop-s-preserved : goal.loop-s-preserved
loop-s-preserved c = let w = onward-lt _ _ _ _ _ _ (sym c.onward.ensures ∙ c.loop-s-test.true) in
    (omega (arith, w.0), before-next _ _ _ _ _ w.1)

pub returns : goal.returns
returns c = let inv = c.loop-s.invariant in
    split c.requires _ (search rules) _ _ _ inv.0 inv.1 (sym c.onward.ensures ∙ c.loop-s-test.false)
