-- `stock::bin_of` meets its contract. Assumes nothing.
use Rattle.floats.specs.Pick.{picks}
use Rattle.stock.specs.Bin.{bin_of}
use Rattle.stock.proofs.bin_of.Goals as goal

pub returns : goal.returns
unfolding bin_of
returns c = search (picks, ← c.least.ensures, ← c.float_of.ensures)
