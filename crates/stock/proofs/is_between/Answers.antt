-- `stock::is_between` meets its contract. Assumes nothing.
use Rattle.floats.specs.Pick.{picks}
use Rattle.stock.specs.Cell.{between}
use Rattle.stock.proofs.is_between.Goals as goal

pub returns : goal.returns
unfolding between
returns c = search picks
