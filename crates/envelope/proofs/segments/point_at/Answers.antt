-- `envelope::segments::point_at` meets its contract. Assumes nothing.
use Rattle.floats.specs.Pick.{picks}
use Rattle.envelope.specs.Envelope.{u_at, v_at}
use Rattle.envelope.proofs.segments.point_at.Goals as goal

pub returns : goal.returns
unfolding u_at v_at
returns c = search (picks, ← c.clean-v.ensures, ← c.clean-u.ensures)
