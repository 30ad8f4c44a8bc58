-- `envelope::extent_of` meets its contract. Assumes nothing.
use mathlib.Core.Path.{sym, ap, ◌∙◌}
use mir.Facts.{to_z-of_z}
use Rattle.floats.specs.Pick.{pick_true, pick-false}
use Rattle.envelope.specs.Envelope.{count, wider, radii_in}
use Rattle.envelope.specs.Halving.{halved_span, halved_radii}
use Rattle.envelope.proofs.Kept.{wider-fits}
use Rattle.envelope.proofs.extent_of.Goals as goal

pub extent_in-requires : goal.extent_in-requires
extent_in-requires c = let a = c.args in
    (wider-fits a.points.now a.order a.lo a.hi c.span_of.result c.wider-s.result (c.span_of.ensures ∙ ap (λ z. halved_span a.points.now z a.lo a.hi) (to_z-of_z c.ranges.order)) c.wider-s.ensures, c.if-lo-hi.true)

pub returns-then-lo-hi : goal.returns-then-lo-hi
unfolding halved_radii
returns-then-lo-hi c = let a = c.args in
    c.extent_in.ensures ∙ ap (λ w. radii_in a.points.now w a.lo a.hi) (c.wider-s.ensures ∙ ap (λ w. wider w (count a.points.now)) (c.span_of.ensures ∙ ap (λ z. halved_span a.points.now z a.lo a.hi) (to_z-of_z c.ranges.order))) ∙ sym (pick_true _ _ _ c.if-lo-hi.true)

pub returns : goal.returns
unfolding halved_radii
returns c = sym (pick-false _ _ _ c.if-lo-hi.false)
