-- `envelope::higher` meets its contract. Assumes nothing.
use Rattle.floats.specs.Pick.{picks}
use Rattle.envelope.specs.Envelope.{higher}
use Rattle.envelope.proofs.higher.Goals as goal

pub returns-in_default : goal.returns-in_default
unfolding higher
returns-in_default c = search (picks, c.in_default.is)

pub returns-in_default-b : goal.returns-in_default-b
unfolding higher
returns-in_default-b c = search (picks, c.in-Some.is, c.in_default-b.is)

pub returns : goal.returns
unfolding higher
returns c = search (picks, ← c.greatest.ensures, c.in-Some.is, c.in-Some-b.is)
