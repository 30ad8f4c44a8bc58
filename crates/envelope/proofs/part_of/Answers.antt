-- `envelope::part_of` meets its contract. Assumes nothing.
use mathlib.Core.Path.{sym, ap, ◌∙◌}
use mir.Facts.{to_z-of_z}
use Rattle.floats.specs.Pick.{pick_true, pick-false}
use Rattle.envelope.specs.Halving.{halved_span, straight, halved_part}
use Rattle.envelope.proofs.part_of.Goals as goal

pub returns-then-lo-hi : goal.returns-then-lo-hi
unfolding halved_part
returns-then-lo-hi c = let a = c.args in
    c.straight.ensures ∙ ap straight (c.span_of.ensures ∙ ap (λ z. halved_span a.points.now z a.lo a.hi) (to_z-of_z c.ranges.order)) ∙ sym (pick_true _ _ _ c.if-lo-hi.true)

pub returns : goal.returns
unfolding halved_part
returns c = sym (pick-false _ _ _ c.if-lo-hi.false)
