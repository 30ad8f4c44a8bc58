-- `envelope::segments::segment_in` meets its contract. Assumes nothing.
use Rattle.floats.specs.Pick.{picks}
use Rattle.envelope.specs.Envelope.{segment_in}
use Rattle.envelope.proofs.segments.segment_in.Goals as goal

pub returns : goal.returns
unfolding segment_in
returns c = search (picks, ← c.segment_over.ensures, ← c.least-b.ensures, ← c.greatest.ensures, ← c.greatest-a.ensures, ← c.least.ensures)
