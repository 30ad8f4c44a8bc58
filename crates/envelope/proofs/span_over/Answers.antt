-- `envelope::span_over` meets its contract. Assumes nothing.
use mathlib.Core.Path.{ap, ◌∙◌}
use mir.Facts.{to_z-of_z}
use Rattle.envelope.specs.Halving.{halved_span}
use Rattle.floats.proofs.Bools.{so}
use Rattle.envelope.proofs.Rules.{span-ruled}
use Rattle.envelope.proofs.span_over.Goals as goal

pub returns : goal.returns
returns c = let a = c.args in
    span-ruled a.points.now c.shared_slice_known-1.given a.order a.lo a.hi (so c.well_formed.1.1.0.1) (so c.well_formed.1.1.1.0.1) _
    (c.span_of.ensures ∙ ap (λ z. halved_span a.points.now z a.lo a.hi) (to_z-of_z c.ranges.order))
