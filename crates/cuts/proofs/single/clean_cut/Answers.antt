-- `cuts::single::clean_cut` meets its contract. Assumes nothing.
use Rattle.floats.specs.Pick.{picks}
use Rattle.cuts.specs.Cut.{clean_cut}
use Rattle.cuts.proofs.single.clean_cut.Goals as goal

pub returns-in-Line : goal.returns-in-Line
unfolding clean_cut
returns-in-Line c = search (picks, c.in-Line.is)

pub returns-in-Thread : goal.returns-in-Thread
unfolding clean_cut
returns-in-Thread c = search (picks, ← c.clean-in-Thread-2.ensures, ← c.clean-in-Thread.ensures, ← c.clean.ensures, c.in-Thread.is)

pub returns-in-ThreadInner : goal.returns-in-ThreadInner
unfolding clean_cut
returns-in-ThreadInner c = search (picks, ← c.clean-in-ThreadInner-3.ensures, ← c.clean-in-ThreadInner-2.ensures, ← c.clean-in-ThreadInner.ensures, c.in-ThreadInner.is)

pub returns-in-Drill : goal.returns-in-Drill
unfolding clean_cut
returns-in-Drill c = search (picks, ← c.clean-in-Drill-3.ensures, ← c.clean-in-Drill-2.ensures, ← c.clean-in-Drill.ensures, c.in-Drill.is)

pub returns-in-Arc : goal.returns-in-Arc
unfolding clean_cut
returns-in-Arc c = search (picks, c.in-Arc.is)
