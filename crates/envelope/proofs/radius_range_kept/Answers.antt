-- `envelope::radius_range_kept` meets its contract. Assumes nothing.
use mathlib.Core.Path.{sym, ap, ap₂, ◌∙◌}
use mathlib.Core.Bool.{◌&&◌}
use borrow.Author.Tests.{not-true, not-false}
use mir.Facts.{to_z-of_z}
use Rattle.envelope.specs.Halving.{halved_radii, kept_range}
use Rattle.envelope.proofs.Steps.{reads}
use Rattle.envelope.proofs.Kept.{rule-outside, rule-refused, rule-answered}
use Rattle.floats.proofs.Bools.{so}
use Rattle.envelope.proofs.Rules.{range-kept}
use Rattle.envelope.proofs.radius_range_kept.Goals as goal

pub returns-then-order-eq-OUTSIDE : goal.returns-then-order-eq-OUTSIDE
unfolding kept_range
returns-then-order-eq-OUTSIDE c = range-kept c.args.points.now c.shared_slice_known-1.given c.args.order c.args.lo c.args.hi (so c.well_formed.1.1.0.1) (so c.well_formed.1.1.1.0.1) _
    (rule-outside _ _ _ (reads c.args.order 2 c.ranges.order c.if-order-eq-OUTSIDE.true))

pub returns-then-not-is_usable : goal.returns-then-not-is_usable
unfolding kept_range
returns-then-not-is_usable c = range-kept c.args.points.now c.shared_slice_known-1.given c.args.order c.args.lo c.args.hi (so c.well_formed.1.1.0.1) (so c.well_formed.1.1.1.0.1) _
    (rule-refused _ _ _ (ap₂ (λ a b. a && b) (sym c.is_usable.ensures) (sym c.is_usable-2.ensures) ∙ not-true _ c.if-not-is_usable.true-raw))

pub returns : goal.returns
unfolding kept_range
returns c = range-kept c.args.points.now c.shared_slice_known-1.given c.args.order c.args.lo c.args.hi (so c.well_formed.1.1.0.1) (so c.well_formed.1.1.1.0.1) _
    (rule-answered _ _ _ (λ e. c.if-order-eq-OUTSIDE.false (rw e)) (ap₂ (λ a b. a && b) (sym c.is_usable.ensures) (sym c.is_usable-2.ensures) ∙ not-false _ c.if-not-is_usable.false-raw) (c.extent_of.ensures ∙ ap (λ z. halved_radii c.args.points.now z c.clean.result c.clean-2.result) (to_z-of_z c.ranges.order) ∙ ap₂ (halved_radii c.args.points.now c.args.order) c.clean.ensures c.clean-2.ensures))
