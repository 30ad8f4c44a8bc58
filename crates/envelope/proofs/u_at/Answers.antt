-- `envelope::u_at` meets its contract. Assumes nothing.
use Rattle.floats.specs.Pick.{picks}
use Rattle.envelope.specs.Envelope.{u_at}
use Rattle.envelope.proofs.u_at.Goals as goal

pub returns : goal.returns
unfolding u_at
returns c = search (picks, ← c.clean.ensures)
