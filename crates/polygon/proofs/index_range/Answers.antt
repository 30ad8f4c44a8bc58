-- `polygon::index_range` meets its contract. Assumes nothing.
use borrow.Author.Tests.{le-leb, lt-leb}
use Rattle.floats.specs.Pick.{picks}
use Rattle.polygon.specs.Polygon.{bins_of, bins_from}
use Rattle.polygon.proofs.index_range.Goals as goal

pub returns-then-hi-s : goal.returns-then-hi-s
unfolding bins_of bins_from
returns-then-hi-s c = search picks

pub returns-then-past-first : goal.returns-then-past-first
unfolding bins_of bins_from
returns-then-past-first c = search (picks, le-leb _ _ c.if-past-first.true, ← c.past_of-past.ensures, ← c.whole_part-last.ensures, ← c.whole_part-first.ensures)

pub returns : goal.returns
unfolding bins_of bins_from
returns c = search (picks, lt-leb _ _ c.if-past-first.false, ← c.past_of-past.ensures, ← c.whole_part-last.ensures, ← c.whole_part-first.ensures)
