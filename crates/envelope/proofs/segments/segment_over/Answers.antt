-- `envelope::segments::segment_over` meets its contract. Assumes nothing.
use Rattle.floats.specs.Pick.{picks}
use Rattle.envelope.specs.Envelope.{segment_over}
use Rattle.envelope.proofs.segments.segment_over.Goals as goal

pub returns-then-b-a : goal.returns-then-b-a
unfolding segment_over
returns-then-b-a c = search picks

pub returns-then-q-p : goal.returns-then-q-p
unfolding segment_over
returns-then-q-p c = search (picks, ← c.taken-then-q-p.ensures, ← c.taken.ensures)

pub returns : goal.returns
unfolding segment_over
returns c = search (picks, ← c.taken-3.ensures, ← c.across-2.ensures, ← c.taken-2.ensures, ← c.across.ensures)
