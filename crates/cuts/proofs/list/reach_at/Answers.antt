-- `cuts::list::reach_at` meets its contract. Assumes nothing.
use Rattle.floats.specs.Pick.{picks}
use Rattle.cuts.specs.Source.{source_reach}
use Rattle.cuts.proofs.list.reach_at.Goals as goal

pub returns-in-Thread : goal.returns-in-Thread
unfolding source_reach
returns-in-Thread c = search (picks, c.in-Thread.is)

pub returns-in-Drill : goal.returns-in-Drill
unfolding source_reach
returns-in-Drill c = search (picks, c.drill_reach.ensures, c.bin_of.ensures, c.in-Drill.is)

pub returns-in-Rows : goal.returns-in-Rows
unfolding source_reach
returns-in-Rows c = search (picks, c.row_reach.ensures, c.in-Rows.is)
