-- `envelope::segments::is_aside` meets its contract. Assumes nothing.
use Rattle.floats.specs.Pick.{picks}
use Rattle.envelope.specs.Halving.{aside}
use Rattle.envelope.proofs.segments.is_aside.Goals as goal

pub returns-then-pu-lo : goal.returns-then-pu-lo
unfolding aside
returns-then-pu-lo c = search picks

pub returns-then-hi-pu : goal.returns-then-hi-pu
unfolding aside
returns-then-hi-pu c = search picks

pub returns : goal.returns
unfolding aside
returns c = search picks
