-- `cuts::single::cut_good` meets its contract. Assumes nothing.
use Rattle.floats.specs.Pick.{picks}
use Rattle.cuts.specs.Cut.{cut_good}
use Rattle.cuts.proofs.single.cut_good.Goals as goal

pub returns-in-Line : goal.returns-in-Line
unfolding cut_good
returns-in-Line c = search (picks, ← c.segments_good.ensures, c.in-Line.is)

pub returns-in-Thread : goal.returns-in-Thread
unfolding cut_good
returns-in-Thread c = search (picks, ← c.thread_good.ensures, c.in-Thread.is)

pub returns-in-ThreadInner : goal.returns-in-ThreadInner
unfolding cut_good
returns-in-ThreadInner c = search (picks, ← c.thread_good-in-ThreadInner.ensures, c.in-ThreadInner.is)

pub returns-in-Drill : goal.returns-in-Drill
unfolding cut_good
returns-in-Drill c = search (picks, ← c.drill_good.ensures, c.in-Drill.is)

pub returns-in-Arc : goal.returns-in-Arc
unfolding cut_good
returns-in-Arc c = search (picks, c.in-Arc.is)
