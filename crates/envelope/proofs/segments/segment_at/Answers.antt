-- `envelope::segments::segment_at` meets its contract. Assumes nothing.
use Rattle.floats.specs.Pick.{picks}
use Rattle.envelope.specs.Envelope.{segment_at}
use Rattle.envelope.proofs.segments.segment_at.Goals as goal

pub returns-then-u-lo : goal.returns-then-u-lo
unfolding segment_at
returns-then-u-lo c = search (picks, ← c.greatest-hi.ensures, ← c.least-lo.ensures)

pub returns-then-q-p : goal.returns-then-q-p
unfolding segment_at
returns-then-q-p c = search (picks, ← c.greatest.ensures, ← c.greatest-hi.ensures, ← c.least-lo.ensures)

pub returns : goal.returns
unfolding segment_at
returns c = search (picks, ← c.across.ensures, ← c.greatest-hi.ensures, ← c.least-lo.ensures)
