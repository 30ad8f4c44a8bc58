-- `cuts::ends::back` meets its contract. Assumes nothing.
use mathlib.Core.Path.{sym, ◌∙◌}
use native.Mathlib.Omega.{arith}
use borrow.Author.Tests.{not-true, not-false}
use Rattle.cuts.proofs.Grades.{before-pos}
use Rattle.cuts.proofs.ends.back.Goals as goal

pub overflow_sub-g : goal.overflow_sub-g
overflow_sub-g c = omega (arith, before-pos _ _ _ _ _ (sym c.before-in-loop-s.ensures ∙ not-true _ c.loop-s-test.true-raw))

pub loop-s-smaller : goal.loop-s-smaller
loop-s-smaller c = omega (arith, before-pos _ _ _ _ _ (sym c.before-in-loop-s.ensures ∙ not-true _ c.loop-s-test.true-raw))

pub returns : goal.returns
returns c = (c.loop-s.invariant, sym c.before-in-loop-s.ensures ∙ not-false _ c.loop-s-test.false-raw)
