-- `stock::cell_fits` meets its contract. Assumes nothing.
use Rattle.floats.specs.Pick.{picks}
use Rattle.stock.specs.Cell.{cell_fits}
use Rattle.stock.proofs.cell_fits.Goals as goal

pub returns-then-s : goal.returns-then-s
unfolding cell_fits
returns-then-s c = c.cell_passes.ensures

pub returns : goal.returns
unfolding cell_fits
returns c = search (picks, ← c.pair_fits-2.ensures, ← c.pair_fits.ensures)
