-- `cuts::unchanged::leaves` meets its contract. Assumes nothing.
use mathlib.Core.Bool.{false≢true}
use Rattle.cuts.proofs.Left.{thread-source, drill-source}
use Rattle.cuts.proofs.unchanged.leaves.Goals as goal

pub returns-in-Thread : goal.returns-in-Thread
returns-in-Thread c t = thread-source _ _ _ _ c.in-Thread.is (c.thread_leaves.ensures.stays t)

pub returns-in-Drill : goal.returns-in-Drill
returns-in-Drill c t = drill-source _ _ _ _ _ c.in-Drill.is (c.drill_leaves.ensures t)

pub returns-in-Rows : goal.returns-in-Rows
returns-in-Rows c t = absurd (false≢true t)
