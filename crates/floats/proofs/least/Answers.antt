-- `floats::least` meets its contract. Assumes nothing.
use Rattle.floats.specs.Pick.{picks}
use Rattle.floats.specs.Numbers.{least_of}
use Rattle.floats.proofs.least.Goals as goal

pub returns-then-b-a : goal.returns-then-b-a
unfolding least_of
returns-then-b-a c = search picks

pub returns-else-b-a : goal.returns-else-b-a
unfolding least_of
returns-else-b-a c = search picks
