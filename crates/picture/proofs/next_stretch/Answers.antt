-- `picture::next_stretch` meets its contract. Assumes nothing.
use Rattle.picture.proofs.Runs.{stretch-of}
use Rattle.picture.proofs.next_stretch.Goals as goal

pub returns : goal.returns
returns c = stretch-of _ _ _ _ _ c.lesser-n.ensures c.first_so-from.ensures c.first_so.ensures
