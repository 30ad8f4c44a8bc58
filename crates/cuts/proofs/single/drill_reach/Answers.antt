-- `cuts::single::drill_reach` meets its contract. Assumes nothing.
use Rattle.floats.specs.Pick.{picks}
use Rattle.cuts.proofs.single.drill_reach.Goals as goal

pub returns : goal.returns
returns c = search (picks, ← c.drill_at-high.ensures, ← c.drill_at-low.ensures)
