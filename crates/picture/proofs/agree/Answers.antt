-- `picture::agree` meets its contract. Assumes nothing.
use Rattle.floats.specs.Pick.{picks}
use Rattle.picture.proofs.agree.Goals as goal

pub returns-then-a : goal.returns-then-a
returns-then-a c = search picks

pub returns : goal.returns
returns c = search picks
