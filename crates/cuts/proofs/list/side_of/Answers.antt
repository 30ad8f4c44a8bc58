-- `cuts::list::side_of` meets its contract. Assumes nothing.
use Rattle.floats.specs.Pick.{picks}
use Rattle.cuts.specs.Source.{source_side}
use Rattle.cuts.proofs.list.side_of.Goals as goal

pub returns-in-Thread : goal.returns-in-Thread
unfolding source_side
returns-in-Thread c = search (picks, c.in-Thread.is)

pub returns-in-Drill : goal.returns-in-Drill
unfolding source_side
returns-in-Drill c = search (picks, c.in-Drill.is)

pub returns-in-Rows : goal.returns-in-Rows
unfolding source_side
returns-in-Rows c = search (picks, c.in-Rows.is)
