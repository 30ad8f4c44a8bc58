-- `cuts::unchanged::thread_leaves` meets its contract. Assumes nothing.
use Rattle.cuts.proofs.Left.{outer-leaves, inner-leaves}
use Rattle.cuts.proofs.unchanged.thread_leaves.Goals as goal

pub returns-in-Outer : goal.returns-in-Outer
returns-in-Outer c = outer-leaves _ _ _ _ c.in-Outer.is c.greatest.ensures

pub returns-in-Inner : goal.returns-in-Inner
returns-in-Inner c = inner-leaves _ _ _ _ c.in-Inner.is c.least.ensures
