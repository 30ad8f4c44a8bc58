-- `envelope::span_kept` meets its contract. Assumes nothing.
use mathlib.Core.Path.{◌≡◌, sym, ap, ap₂, ◌∙◌}
use mathlib.Core.Bool.{◌&&◌}
use borrow.Author.Tests.{not-true, not-false}
use mir.Facts.{to_z-of_z}
use lib.IntN.{ℤ}
use lib.Ieee.{Float}
use mathlib.Core.List.{List}
use mir.Syntax.{w8}
use Rattle.envelope.specs.declared.Span.{Span}
use Rattle.floats.specs.Numbers.{clean_of}
use Rattle.envelope.specs.Halving.{halved_part, kept_within}
use Rattle.envelope.proofs.Steps.{reads}
use Rattle.envelope.proofs.Kept.{rule-outside, rule-refused, rule-answered}
use Rattle.floats.proofs.Bools.{so}
use Rattle.envelope.proofs.Rules.{within-kept}
use Rattle.envelope.proofs.span_kept.Goals as goal

-- the part that was found
found : (ps : List Float) (z y : ℤ) (a b lo hi : Float) (r : Span) → r ≡ halved_part ps y a b → y ≡ z → a ≡ clean_of lo → b ≡ clean_of hi → r ≡ halved_part ps z (clean_of lo) (clean_of hi)
found ps z y a b lo hi r h e p q = h ∙ (ap (λ x. halved_part ps x a b) e ∙ ap₂ (halved_part ps z) p q)

pub returns-then-order-eq-OUTSIDE : goal.returns-then-order-eq-OUTSIDE
unfolding kept_within
returns-then-order-eq-OUTSIDE c = within-kept c.args.points.now c.shared_slice_known-1.given c.args.order c.args.lo c.args.hi (so c.well_formed.1.1.0.1) (so c.well_formed.1.1.1.0.1) _
    (rule-outside _ _ _ (reads c.args.order 2 c.ranges.order c.if-order-eq-OUTSIDE.true))

pub returns-then-not-is_usable : goal.returns-then-not-is_usable
unfolding kept_within
returns-then-not-is_usable c = within-kept c.args.points.now c.shared_slice_known-1.given c.args.order c.args.lo c.args.hi (so c.well_formed.1.1.0.1) (so c.well_formed.1.1.1.0.1) _
    (rule-refused _ _ _ (ap₂ (λ a b. a && b) (sym c.is_usable.ensures) (sym c.is_usable-2.ensures) ∙ not-true _ c.if-not-is_usable.true-raw))

pub returns : goal.returns
unfolding kept_within
returns c = within-kept c.args.points.now c.shared_slice_known-1.given c.args.order c.args.lo c.args.hi (so c.well_formed.1.1.0.1) (so c.well_formed.1.1.1.0.1) _
    (rule-answered _ _ _ (λ e. c.if-order-eq-OUTSIDE.false (rw e)) (ap₂ (λ a b. a && b) (sym c.is_usable.ensures) (sym c.is_usable-2.ensures) ∙ not-false _ c.if-not-is_usable.false-raw)
    (found c.args.points.now c.args.order _ _ _ c.args.lo c.args.hi c.part_of.result c.part_of.ensures (to_z-of_z {w = w8} c.ranges.order) c.clean.ensures c.clean-2.ensures))
