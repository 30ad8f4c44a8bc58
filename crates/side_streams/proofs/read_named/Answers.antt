-- `side_streams::read_named` meets its contract. Assumes nothing.
use Rattle.side_streams.proofs.Told.{no-file}
use Rattle.side_streams.proofs.read_named.Goals as goal

pub returns-in-Err : goal.returns-in-Err
returns-in-Err g c = no-file _ _ _ c.at.ensures
