-- `nose::segments_good` meets its contract. Assumes nothing.
use borrow.Author.Tests.{eq-eqb, ne_eqb, le-leb, lt-leb}
use Rattle.nose.specs.Nose.{segments_good}
use Rattle.nose.proofs.segments_good.Goals as goal

pub returns-then-m-len : goal.returns-then-m-len
unfolding segments_good
returns-then-m-len c = simp (ne_eqb _ _ c.if-m-len.true)

pub returns-then-m-gt-SEGMENT_LIMIT : goal.returns-then-m-gt-SEGMENT_LIMIT
unfolding segments_good
returns-then-m-gt-SEGMENT_LIMIT c = simp (eq-eqb _ _ c.if-m-len.false, lt-leb _ _ c.if-m-gt-SEGMENT_LIMIT.true)

pub returns : goal.returns
unfolding segments_good
returns c = simp (eq-eqb _ _ c.if-m-len.false, le-leb _ _ c.if-m-gt-SEGMENT_LIMIT.false, c.is_usable.ensures, c.good_to.ensures)
