-- `stock::is_ordered` meets its contract. Assumes nothing.
use Rattle.floats.specs.Pick.{picks}
use Rattle.stock.specs.Signs.{ordered}
use Rattle.stock.proofs.is_ordered.Goals as goal

pub returns : goal.returns
unfolding ordered
returns c = search picks
