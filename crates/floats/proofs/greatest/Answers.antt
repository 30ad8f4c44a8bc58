-- `floats::greatest` meets its contract. Assumes nothing.
use Rattle.floats.specs.Pick.{picks}
use Rattle.floats.specs.Numbers.{greatest_of}
use Rattle.floats.proofs.greatest.Goals as goal

pub returns-then-a-b : goal.returns-then-a-b
unfolding greatest_of
returns-then-a-b c = search picks

pub returns-else-a-b : goal.returns-else-a-b
unfolding greatest_of
returns-else-a-b c = search picks
