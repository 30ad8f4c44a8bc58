-- `envelope::segments::higher_at` meets its contract. Assumes nothing.
use borrow.Author.Rules.{rules}
use mathlib.Core.Path.{sym, ap, ap₂, ◌∙◌}
use Rattle.envelope.specs.declared.segments.Point.{Point}
use Rattle.envelope.specs.Envelope.{higher, segment_at}
use Rattle.envelope.proofs.Aside.{none-higher}
use Rattle.envelope.proofs.segments.higher_at.Goals as goal

-- `envelope::segments::higher_at` meets its contract. Assumes nothing.
pub returns-then-is_aside : goal.returns-then-is_aside
returns-then-is_aside c = let a = c.args in
    sym (none-higher a.points.now c.shared_slice_known-1.given a.i a.u (search rules) (sym c.is_aside.ensures ∙ c.if-is_aside.true) (a.found))

pub returns : goal.returns
returns c = let a = c.args in
    c.higher.ensures ∙ ap (higher (a.found)) (c.segment_at.ensures ∙ ap₂ (λ (p q : Point). segment_at p q a.u) c.point_at-p.ensures c.point_at-q.ensures)
