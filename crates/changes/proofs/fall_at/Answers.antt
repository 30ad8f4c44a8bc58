-- `changes::fall_at` meets its contract. Assumes nothing.
use Rattle.floats.specs.Pick.{picks}
use Rattle.changes.proofs.fall_at.Goals as goal

pub returns-then-rises : goal.returns-then-rises
returns-then-rises c = search picks

pub returns : goal.returns
returns c = search picks
