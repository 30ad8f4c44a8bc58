-- `envelope::radius_at_kept` meets its contract. Assumes nothing.
use mathlib.Core.Path.{sym, ap, ◌∙◌}
use borrow.Author.Tests.{not-true, not-false}
use mir.Facts.{to_z-of_z}
use Rattle.envelope.specs.Halving.{halved_at, kept_at}
use Rattle.envelope.proofs.Steps.{reads}
use Rattle.envelope.proofs.Kept.{rule-outside, rule-refused, rule-answered}
use Rattle.floats.proofs.Bools.{so}
use Rattle.envelope.proofs.Rules.{at-kept}
use Rattle.envelope.proofs.radius_at_kept.Goals as goal

pub returns-then-order-eq-OUTSIDE : goal.returns-then-order-eq-OUTSIDE
unfolding kept_at
returns-then-order-eq-OUTSIDE c = at-kept c.args.points.now c.shared_slice_known-1.given c.args.order c.args.u (so c.well_formed.1.1.0.1) _
    (rule-outside _ _ _ (reads c.args.order 2 c.ranges.order c.if-order-eq-OUTSIDE.true))

pub returns-then-not-is_usable : goal.returns-then-not-is_usable
unfolding kept_at
returns-then-not-is_usable c = at-kept c.args.points.now c.shared_slice_known-1.given c.args.order c.args.u (so c.well_formed.1.1.0.1) _
    (rule-refused _ _ _ (sym c.is_usable.ensures ∙ not-true _ c.if-not-is_usable.true-raw))

pub returns : goal.returns
unfolding kept_at
returns c = at-kept c.args.points.now c.shared_slice_known-1.given c.args.order c.args.u (so c.well_formed.1.1.0.1) _
    (rule-answered _ _ _ (λ e. c.if-order-eq-OUTSIDE.false (rw e)) (sym c.is_usable.ensures ∙ not-false _ c.if-not-is_usable.false-raw) (c.highest_at.ensures ∙ ap (λ z. halved_at c.args.points.now z c.clean.result) (to_z-of_z c.ranges.order) ∙ ap (halved_at c.args.points.now c.args.order) c.clean.ensures))
