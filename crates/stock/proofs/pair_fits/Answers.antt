-- `stock::pair_fits` meets its contract. Assumes nothing.
use Rattle.floats.specs.Pick.{picks}
use Rattle.stock.proofs.pair_fits.Goals as goal

pub returns : goal.returns
returns c = search (picks, ← c.is_minus_zero-2.ensures, ← c.is_minus_zero.ensures)
