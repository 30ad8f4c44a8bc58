-- `insert::is_tolerance` meets its contract. Assumes nothing.
use Rattle.floats.specs.Pick.{picks}
use Rattle.insert.proofs.is_tolerance.Goals as goal

pub returns : goal.returns
returns c = search (picks, ← c.is_usable.ensures)
