-- `envelope::segments::across` meets its contract. Assumes nothing.
use Rattle.floats.specs.Pick.{picks}
use Rattle.envelope.specs.Envelope.{across}
use Rattle.envelope.proofs.segments.across.Goals as goal

pub returns : goal.returns
unfolding across
returns c = search picks
