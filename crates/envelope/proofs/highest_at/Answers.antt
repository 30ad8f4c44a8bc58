-- `envelope::highest_at` meets its contract. Assumes nothing.
use mathlib.Core.Path.{ap, ◌∙◌}
use mir.Facts.{to_z-of_z}
use Rattle.envelope.specs.Envelope.{count, wider, highest_in}
use Rattle.envelope.specs.Halving.{halved_span, halved_at}
use Rattle.envelope.proofs.Kept.{wider-fits}
use Rattle.envelope.proofs.highest_at.Goals as goal

pub highest_in-requires : goal.highest_in-requires
highest_in-requires c = let a = c.args in
    wider-fits a.points.now a.order a.u a.u c.span_of.result c.wider-s.result (c.span_of.ensures ∙ ap (λ z. halved_span a.points.now z a.u a.u) (to_z-of_z c.ranges.order)) c.wider-s.ensures

pub returns : goal.returns
unfolding halved_at
returns c = let a = c.args in
    c.highest_in.ensures ∙ ap (λ w. highest_in a.points.now w a.u) (c.wider-s.ensures ∙ ap (λ w. wider w (count a.points.now)) (c.span_of.ensures ∙ ap (λ z. halved_span a.points.now z a.u a.u) (to_z-of_z c.ranges.order)))
