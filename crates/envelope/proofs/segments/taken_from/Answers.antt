-- `envelope::segments::taken_from` meets its contract. Assumes nothing.
use borrow.Author.Rules.{rules}
use mathlib.Core.Path.{sym, ap₂, ◌∙◌}
use Rattle.envelope.specs.declared.segments.Point.{Point}
use Rattle.envelope.specs.Envelope.{segment_in}
use Rattle.envelope.specs.Halving.{found_radii}
use Rattle.envelope.proofs.Aside.{adds-no-radii}
use Rattle.envelope.proofs.segments.taken_from.Goals as goal

-- `envelope::segments::taken_from` meets its contract. Assumes nothing.
pub returns-then-is_aside : goal.returns-then-is_aside
returns-then-is_aside c = let a = c.args in
    sym (adds-no-radii a.points.now c.shared_slice_known-1.given a.i a.lo a.hi (search rules) (search rules) (sym c.is_aside.ensures ∙ c.if-is_aside.true) c.requires.1 (found_radii a.found))

pub returns : goal.returns
returns c = let a = c.args in
    c.segment_in.ensures ∙ ap₂ (λ (p q : Point). segment_in (found_radii a.found) p q a.lo a.hi) c.point_at-p.ensures c.point_at-q.ensures
