-- `picture::common` meets its contract. Assumes nothing.
use Rattle.floats.specs.Pick.{picks}
use Rattle.picture.proofs.common.Goals as goal

pub returns : goal.returns
returns c = search (picks, ← c.least.ensures, ← c.greatest.ensures)
