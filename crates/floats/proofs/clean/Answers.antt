-- `floats::clean` meets its contract. Assumes nothing.
use Rattle.floats.specs.Pick.{picks}
use Rattle.floats.specs.Numbers.{clean_of}
use Rattle.floats.proofs.clean.Goals as goal

pub returns-then-x : goal.returns-then-x
unfolding clean_of
returns-then-x c = search picks

pub returns-else-x : goal.returns-else-x
unfolding clean_of
returns-else-x c = search picks
