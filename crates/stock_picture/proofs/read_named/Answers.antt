-- `stock_picture::read_named` meets its contract. Assumes nothing.
use Rattle.side_streams.proofs.Told.{no-file}
use Rattle.stock_picture.proofs.read_named.Goals as goal

pub returns-in-Err : goal.returns-in-Err
returns-in-Err c = no-file _ _ _ c.at.ensures
