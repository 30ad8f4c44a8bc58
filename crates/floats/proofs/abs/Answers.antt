-- `floats::abs` meets its contract. Assumes nothing.
use Rattle.floats.specs.Pick.{picks}
use Rattle.floats.specs.Numbers.{size_of}
use Rattle.floats.proofs.abs.Goals as goal

pub returns-then-x : goal.returns-then-x
unfolding size_of
returns-then-x c = search picks

pub returns-else-x : goal.returns-else-x
unfolding size_of
returns-else-x c = search picks
