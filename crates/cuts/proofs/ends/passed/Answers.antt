-- `cuts::ends::passed` meets its contract. Assumes nothing.
use Rattle.floats.specs.Pick.{picks}
use Rattle.cuts.specs.Rows.{passed_of}
use Rattle.cuts.proofs.ends.passed.Goals as goal

pub returns-then-touch : goal.returns-then-touch
unfolding passed_of
returns-then-touch c = search (picks, ← c.bin_of-b.ensures)

pub returns-then-ends : goal.returns-then-ends
unfolding passed_of
returns-then-ends c = search (picks, ← c.bin_of-b.ensures)

pub returns-then-touch-2 : goal.returns-then-touch-2
unfolding passed_of
returns-then-touch-2 c = search (picks, ← c.bin_of-b.ensures)

pub returns : goal.returns
unfolding passed_of
returns c = search (picks, ← c.bin_of-b.ensures)
