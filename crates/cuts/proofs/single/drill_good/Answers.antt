-- `cuts::single::drill_good` meets its contract. Assumes nothing.
use Rattle.floats.specs.Pick.{picks}
use Rattle.cuts.proofs.single.drill_good.Goals as goal

pub returns : goal.returns
returns c = search (picks, ← c.is_usable-3.ensures, ← c.is_usable-2.ensures, ← c.is_usable.ensures)
