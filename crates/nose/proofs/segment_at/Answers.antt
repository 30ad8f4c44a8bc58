-- `nose::segment_at` meets its contract. Assumes nothing.
use mathlib.Core.Path.{sym, ◌∙◌}
use native.Mathlib.Omega.{arith}
use Rattle.nose.specs.Nose.{segment_at}
use Rattle.nose.proofs.Segments.{no-segment}
use Rattle.nose.proofs.segment_at.Goals as goal

pub returns-then-segments-k : goal.returns-then-segments-k
returns-then-segments-k c = c.no_segment.ensures ∙ sym (no-segment c.args.segments.now c.args.k c.args.side (omega arith))

pub returns : goal.returns
unfolding segment_at
returns c = simp (c.clean_at-5.ensures, c.clean_at-4.ensures, c.flip-2.ensures, c.clean_at-3.ensures, c.clean_at-2.ensures, c.flip.ensures, c.clean_at.ensures)
