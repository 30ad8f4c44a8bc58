-- `stock::same_stamp` meets its contract. Assumes nothing.
use Rattle.stock.specs.Stock.{same_stamp}
use Rattle.stock.proofs.same_stamp.Goals as goal

pub returns : goal.returns
unfolding same_stamp
returns c = c.eq.ensures
