-- `polygon::polygon_good` meets its contract. Assumes nothing.
use borrow.Author.Tests.{eq-eqb, ne_eqb, le-leb, lt-leb}
use Rattle.polygon.specs.Polygon.{polygon_good}
use Rattle.polygon.proofs.polygon_good.Goals as goal

pub returns-then-over-ne0 : goal.returns-then-over-ne0
unfolding polygon_good
returns-then-over-ne0 c = rw (ne_eqb _ _ c.if-over-ne0.true)

pub returns-then-len-gt-POINT_LIMIT : goal.returns-then-len-gt-POINT_LIMIT
unfolding polygon_good
returns-then-len-gt-POINT_LIMIT c = rw (eq-eqb _ _ c.if-over-ne0.false, lt-leb _ _ c.if-len-gt-POINT_LIMIT.true)

pub returns : goal.returns
unfolding polygon_good
returns c = rw (eq-eqb _ _ c.if-over-ne0.false, le-leb _ _ c.if-len-gt-POINT_LIMIT.false, ← c.all_usable.ensures, ← c.is_usable.ensures)
