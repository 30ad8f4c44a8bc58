-- `stock_streams::write_stock` meets its contract. Assumes nothing.
use Rattle.stock_streams.proofs.Putting.{went-well}
use Rattle.stock_streams.proofs.write_stock.Goals as goal

pub returns : goal.returns
returns g c = λ e. c.gather_stock-out.ensures.asked (went-well _ _ c.flush.ensures e)
