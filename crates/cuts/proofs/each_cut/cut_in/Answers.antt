-- `cuts::each_cut::cut_in` meets its contract. Assumes nothing.
use native.Mathlib.Omega.{arith}
use Rattle.cuts.specs.Tool.{sweep_act}
use Rattle.changes.proofs.Proposals.{left, same-proposal}
use Rattle.cuts.proofs.Previews.{line-proposed, thread-proposed, inner-proposed, drill-proposed, arc-proposed}
use Rattle.cuts.proofs.each_cut.cut_in.Goals as goal

pub swept-requires : goal.swept-requires
swept-requires c = (c.requires, omega arith)

pub returns-then-n-le-MANY_BINS : goal.returns-then-n-le-MANY_BINS
unfolding sweep_act
returns-then-n-le-MANY_BINS c = same-proposal _ _ _ _ _ _ _ (line-proposed _ _ _ _ _ c.in-Line.is) c.swept.ensures

pub returns-else-n-le-MANY_BINS : goal.returns-else-n-le-MANY_BINS
unfolding sweep_act
returns-else-n-le-MANY_BINS c = same-proposal _ _ _ _ _ _ _ (line-proposed _ _ _ _ _ c.in-Line.is) c.swept_long.ensures

pub returns-in-Thread : goal.returns-in-Thread
returns-in-Thread c = same-proposal _ _ _ _ _ _ _ (thread-proposed _ _ _ _ _ c.in-Thread.is) c.thread.ensures

pub returns-in-ThreadInner : goal.returns-in-ThreadInner
returns-in-ThreadInner c = same-proposal _ _ _ _ _ _ _ (inner-proposed _ _ _ _ _ c.in-ThreadInner.is) c.thread-in-ThreadInner.ensures

pub returns-in-Drill : goal.returns-in-Drill
returns-in-Drill c = same-proposal _ _ _ _ _ _ _ (drill-proposed _ _ _ _ _ c.in-Drill.is) c.drill.ensures

pub returns-in-Arc : goal.returns-in-Arc
returns-in-Arc c = left _ _ _ _ (arc-proposed _ _ _ _ _ c.in-Arc.is)
