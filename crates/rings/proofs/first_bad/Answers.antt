-- `rings::first_bad` meets its contract. The loop's invariant: none of the rings passed is bad. Assumes nothing.
use Rattle.std.specs.Prelude.{None, Some}
use native.Mathlib.Omega.{arith}
use mathlib.Core.Path.{◌≡◌, refl, sym, ap, ap₂, ◌∙◌}
use mathlib.Core.Bool.{◌&&◌}
use Prim.Native.Nat.{ℕ, ◌+◌, ◌/◌}
use lib.ListN.{length}
use borrow.Author.Tests.{not-true, not-false}
use Rattle.refusals.specs.Paper.{first_of, place_or}
use Rattle.floats.specs.Pick.{pick_true, pick-false}
use Rattle.rings.specs.Store.{rings_of, good_ring, bad_from}
use Rattle.rings.proofs.Bad.{bad-next, bad-stops}
use Rattle.rings.proofs.first_bad.Goals as goal

pub loop-i-init : goal.loop-i-init
unfolding bad_from rings_of
loop-i-init c = refl

pub returns-then-not-is_finite_ring-is_filled : goal.returns-then-not-is_finite_ring-is_filled
returns-then-not-is_finite_ring-is_filled c = let loop = c.loop-i in
    let a = c.args in
    let i = loop.i in
    sym
    (ap (place_or (length a.rings.now / 4))
    (bad-stops a.rings.now (i + 1) (length a.rings.now / 4) i (omega arith)
    (bad-next a.rings.now i
    ∙ ap₂ first_of loop.invariant (pick-false _ None (Some i) (ap good_ring (sym c.ring_at-q.ensures) ∙ ap₂ ◌&&◌ (sym c.is_finite_ring.ensures) (sym c.is_filled.ensures) ∙ not-true _ c.if-not-is_finite_ring-is_filled.true-raw)))))

pub loop-i-preserved : goal.loop-i-preserved
loop-i-preserved c = let loop = c.loop-i in
    let a = c.args in
    let i = loop.i in
    bad-next a.rings.now i
    ∙ ap₂ first_of loop.invariant (pick_true _ None (Some i) (ap good_ring (sym c.ring_at-q.ensures) ∙ ap₂ ◌&&◌ (sym c.is_finite_ring.ensures) (sym c.is_filled.ensures) ∙ not-false _ c.if-not-is_finite_ring-is_filled.false-raw))

pub returns : goal.returns
returns c = let a = c.args in
    let e : c.loop-i.i ≡ (length a.rings.now / 4) = omega arith in
    sym (ap (place_or (length a.rings.now / 4)) (ap (λ (j : ℕ). bad_from 0 (rings_of j a.rings.now)) (sym e) ∙ c.loop-i.invariant))
