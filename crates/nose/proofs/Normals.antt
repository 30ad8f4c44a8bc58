-- Which segments have a side: in 01's domain exactly those whose ends are apart (`normal-none`). Assumes nothing.
use Rattle.std.specs.Prelude.{None, Some}
use mathlib.Core.Path.{◌≡◌, refl, sym, ap, ◌∙◌, subst}
use mathlib.Core.Logic.{◌↔◌}
use Prim.Native.Nat.{ℕ}
use native.Mathlib.Nat.{le_of_eq}
use native.Mathlib.Omega.{arith}
use mathlib.Core.Bool.{Bool, true, false, not}
use lib.Dec.{T, lit<, lit≤, not_T}
use lib.Ieee.{Float, binary64, neg, eq, lt, le}
use lib.Ieee.Bits.{is_false}
use Rattle.refusals.specs.Paper.{answers}
use Rattle.floats.specs.Pick.{pick, pick-false}
use Rattle.floats.specs.Numbers.{◌-₆₄◌, ◌/₆₄◌, zero64}
use Rattle.floats.specs.Kinds.{Finite, Within}
use Rattle.floats.proofs.Keys.{top, key}
use Rattle.floats.proofs.Order.{to_le, of_le, of_lt, to-eq, of_eq, le→nlt, nlt→le}
use Rattle.floats.proofs.Exact.{zero-key}
use Rattle.floats.proofs.Signed.{zero+, number-zero, number-finite, of-nonneg, to-nonneg, of_positive, sub_number, sub-nonneg, sub-positive}
use Rattle.floats.proofs.Within.{finite-within, within-sub, within-weaken}
use Rattle.numbers.specs.Length.{length_of}
use Rattle.numbers.proofs.Units.{zero_is}
use Rattle.numbers.proofs.Lengths.{length-answers, length-finite, length-nonneg, length-zero-only}
use Rattle.nose.specs.declared.Point.{Point}
use Rattle.nose.specs.Capsule.{pt, facing, normal_by, normal_of}
use Rattle.nose.proofs.Segments.{PointWithin}

-- a difference is zero exactly where the two are the same number
module _ {x y : Float} (p : Finite binary64 x) (q : Finite binary64 y) where
  no_difference : T (eq (x -₆₄ y) zero64) ↔ T (eq y x)
  no_difference = (λ h. there (subst (λ (z : Float). T (eq (x -₆₄ y) z)) zero_is h), λ h. subst (λ (z : Float). T (eq (x -₆₄ y) z)) (sym zero_is) (back h))
    where
      there : T (eq (x -₆₄ y) zero+) → T (eq y x)
      there h =
          let d = sub_number p q in
          let k : key binary64 (x -₆₄ y) ≡ top binary64 = of_eq d number-zero h ∙ zero-key binary64 false in
          let low = (sub-nonneg p q).0 (to-nonneg d (le_of_eq (sym k))) in
          let high = nlt→le (number-finite p) (number-finite q) (not_T (lt y x) (λ l. omega (arith, of_positive d ((sub-positive p q).1 l)))) in
          to-eq (number-finite q) (number-finite p) (omega (arith, of_le (number-finite q) (number-finite p) low, of_le (number-finite p) (number-finite q) high))

      back : T (eq y x) → T (eq (x -₆₄ y) zero+)
      back h =
          let d = sub_number p q in
          let k = of_eq (number-finite q) (number-finite p) h in
          let low = of-nonneg d ((sub-nonneg p q).1 (to_le (number-finite q) (number-finite p) (le_of_eq k))) in
          let high = of_le d number-zero (nlt→le d number-zero (not_T (lt zero+ (x -₆₄ y)) (λ l. omega (arith, of_lt (number-finite q) (number-finite p) ((sub-positive p q).0 l))))) in
          to-eq d number-zero (omega (arith, zero-key binary64 false))

-- a length is zero exactly where it is not above zero
module _ {l : Float} (p : Finite binary64 l) where
  zero-length : T (eq l zero64) → lt zero64 l ≡ false
  zero-length h = is_false (lt zero64 l) (subst (λ (z : Float). T (not (lt z l))) (sym zero_is) (le→nlt (number-finite p) number-zero (to_le (number-finite p) number-zero (le_of_eq (of_eq (number-finite p) number-zero (subst (λ (z : Float). T (eq l z)) zero_is h))))))

  length-zero : T (le zero+ l) → lt zero64 l ≡ false → T (eq l zero64)
  length-zero n h =
      let high = of_le (number-finite p) number-zero (nlt→le (number-finite p) number-zero (subst (λ (b : Bool). T (not b)) (sym h ∙ ap (λ (z : Float). lt z l) zero_is) tt)) in
      let low = of_le number-zero (number-finite p) n in
      subst (λ (z : Float). T (eq l z)) (sym zero_is) (to-eq (number-finite p) number-zero (omega arith))

-- a normal is missing exactly where the test of the length fails
no-normal : (b : Bool) (n : Point) → pick b (Some n) None ≡ None → b ≡ false
unfolding pick
no-normal true n h = let z : ◌≡◌ {A = ℕ} 0 1 = cc in absurd (omega arith)
no-normal false n h = refl

-- a segment in 01's domain has no side exactly where its ends are the same numbers
pub normal-none : (a b : Point) → PointWithin a → PointWithin b → (normal_of a b ≡ None) ↔ (T (eq a.r b.r) × T (eq a.z b.z))
unfolding normal_of
normal-none a b wa wb = (
  λ h.
      let u = zero-only.0 (length-zero size positive (no-normal (lt zero64 l) n (sym is ∙ h))) in
      ((no_difference (finite-within wb.r) (finite-within wa.r)).0 u.0, (no_difference (finite-within wb.z) (finite-within wa.z)).0 u.1),
  λ h.
      is ∙ pick-false (lt zero64 l) (Some n) None (zero-length size (zero-only.1 (
        (no_difference (finite-within wb.r) (finite-within wa.r)).1 h.0,
        (no_difference (finite-within wb.z) (finite-within wa.z)).1 h.1,
      ))),
)
  where
    dr : Float
    dr = b.r -₆₄ a.r

    dz : Float
    dz = b.z -₆₄ a.z

    X : Within binary64 21 dr
    X = within-sub wb.r wa.r (lit< tt)

    Y : Within binary64 21 dz
    Y = within-sub wb.z wa.z (lit< tt)

    has : (l : Float) × (length_of dr dz ≡ answers l)
    has = length-answers (within-weaken (lit≤ tt) X) (within-weaken (lit≤ tt) Y)

    l : Float
    l = has.0

    e : length_of dr dz ≡ answers l
    e = has.1

    n : Point
    n = facing (pt (dz /₆₄ l) (neg dr /₆₄ l))

    is : normal_by dr dz (length_of dr dz) ≡ pick (lt zero64 l) (Some n) None
    is = ap (normal_by dr dz) e

    size : Finite binary64 l
    size = length-finite dr dz l X.held Y.held e

    positive : T (le zero+ l)
    positive = length-nonneg dr dz l X.held Y.held e

    zero-only : T (eq l zero64) ↔ (T (eq dr zero64) × T (eq dz zero64))
    zero-only = length-zero-only dr dz l X.held Y.held e
