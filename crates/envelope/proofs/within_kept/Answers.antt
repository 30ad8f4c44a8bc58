-- `envelope::within_kept` meets its contract. Assumes nothing.
use mathlib.Core.Path.{◌≡◌, sym, ap, ◌∙◌}
use mathlib.Core.List.{List}
use lib.IntN.{ℤ}
use lib.Ieee.{Float}
use mir.Syntax.{w8}
use mir.Facts.{to_z-of_z}
use native.Mathlib.Omega.{arith}
use Rattle.std.specs.Prelude.{Result, Ok}
use Rattle.refusals.specs.declared.Refusal.{Refusal}
use Rattle.refusals.specs.Number.{paper_of}
use Rattle.refusals.specs.Paper.{answers}
use Rattle.envelope.specs.declared.Span.{Span}
use Rattle.envelope.specs.Envelope.{count}
use Rattle.envelope.specs.Halving.{kept_within, SpanKept}
use Rattle.envelope.proofs.Kept.{Lies, within-lies, within-numbers, within_none}
use Rattle.floats.proofs.Bools.{so}
use Rattle.envelope.proofs.Rules.{numbers-kept}
use Rattle.envelope.proofs.within_kept.Goals as goal

-- the part that was found
found : (ps : List Float) (y z : ℤ) (lo hi : Float) (r : Result Span Refusal) (s : Span) → SpanKept ps y lo hi r → y ≡ z → r ≡ Ok s → answers s ≡ kept_within ps z lo hi
found ps y z lo hi r s k e g = ap paper_of (sym g) ∙ k.found ∙ ap (λ x. kept_within ps x lo hi) e

-- it lies among the points
room : (ps : List Float) (y z : ℤ) (lo hi : Float) (r : Result Span Refusal) (s : Span) → SpanKept ps y lo hi r → y ≡ z → r ≡ Ok s → Lies s (count ps)
room ps y z lo hi r s k e g = within-lies ps z lo hi s (found ps y z lo hi r s k e g)

pub returns-in_default : goal.returns-in_default
returns-in_default c = numbers-kept c.args.points.now c.shared_slice_known-1.given c.args.order c.args.lo c.args.hi (so c.well_formed.1.1.0.1) (so c.well_formed.1.1.1.0.1) _
    (within_none c.args.points.now c.args.order c.args.lo c.args.hi _ (ap paper_of (sym c.in_default.is) ∙ c.span_kept.ensures.found ∙ ap (λ z. kept_within c.args.points.now z c.args.lo c.args.hi) (to_z-of_z {w = w8} c.ranges.order)))

pub overflow_mul-a : goal.overflow_mul-a
overflow_mul-a c = let l = room _ _ _ _ _ _ _ c.span_kept.ensures (to_z-of_z {w = w8} c.ranges.order) c.in-Ok.is in
    omega arith

pub overflow_mul-e : goal.overflow_mul-e
overflow_mul-e c = let l = room _ _ _ _ _ _ _ c.span_kept.ensures (to_z-of_z {w = w8} c.ranges.order) c.in-Ok.is in
    omega arith

pub offset_bounds-points-a : goal.offset_bounds-points-a
offset_bounds-points-a c = let l = room _ _ _ _ _ _ _ c.span_kept.ensures (to_z-of_z {w = w8} c.ranges.order) c.in-Ok.is in
    omega arith

pub slice_bounds-result-start : goal.slice_bounds-result-start
slice_bounds-result-start c = let l = room _ _ _ _ _ _ _ c.span_kept.ensures (to_z-of_z {w = w8} c.ranges.order) c.in-Ok.is in
    omega arith

pub slice_bounds-result-end-2 : goal.slice_bounds-result-end-2
slice_bounds-result-end-2 c = let l = room _ _ _ _ _ _ _ c.span_kept.ensures (to_z-of_z {w = w8} c.ranges.order) c.in-Ok.is in
    omega arith

pub slice_bounds-result-count : goal.slice_bounds-result-count
slice_bounds-result-count c = let l = room _ _ _ _ _ _ _ c.span_kept.ensures (to_z-of_z {w = w8} c.ranges.order) c.in-Ok.is in
    omega arith

pub returns : goal.returns
returns c = numbers-kept c.args.points.now c.shared_slice_known-1.given c.args.order c.args.lo c.args.hi (so c.well_formed.1.1.0.1) (so c.well_formed.1.1.1.0.1) _
    (within-numbers c.args.points.now c.args.order c.args.lo c.args.hi _ (found _ _ _ _ _ _ _ c.span_kept.ensures (to_z-of_z {w = w8} c.ranges.order) c.in-Ok.is))
