-- `blocks::bins::chosen` meets its contract. Assumes nothing.
use Rattle.floats.specs.Pick.{picks}
use Rattle.blocks.proofs.bins.chosen.Goals as goal

pub returns-then-t : goal.returns-then-t
returns-then-t c = search picks

pub returns-else-t : goal.returns-else-t
returns-else-t c = search picks
