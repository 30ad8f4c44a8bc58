-- Tiny parts: they are scaled up with no rounding, and have a length; a length is 01's, or that of scaled parts scaled back. Assumes nothing.
use Rattle.std.proofs.Common.{◌≡◌, ℕ, ◌+◌, ◌*◌, ◌^◌, ◌<◌, ◌≤◌, Bool, true, false, ◌&&◌, T, ◌⊎◌, pos, negsuc, sym, refl, ap, ◌∙◌, subst, inl, inr, le_trans, le_of_eq, lt_of_lt_of_le, lt_of_le_of_lt, le_of_lt, mul-le-mul_right, mul_assoc, mul-le-mul, mul-lt-mul_of_pos_right, mul-pos, lt_of_not-le, arith, lit≤, pow_pos, pow_mono, pow-add}
use native.Mathlib.Decide.{dec_le}
use lib.Ieee.{Float, nan, inf, fin, binary64, neg, fits, lt, of_bits, of_fields, odd}
use lib.Ieee.Fits.{and_l, and_r}
use lib.Ieee.Scale.{finite}
use Rattle.refusals.specs.Paper.{answers, onward-answers}
use Rattle.floats.specs.Pick.{pick, pick_true, pick-false}
use Rattle.floats.specs.Numbers.{◌*₆₄◌, size_of}
use Rattle.floats.specs.Kinds.{Finite, Within}
use Rattle.floats.proofs.Keys.{top, mag, key-fin}
use Rattle.floats.proofs.Order.{to-lt, of_lt}
use Rattle.floats.proofs.Rounded.{snap, rounded-mono, rounded-same, snap-exact}
use Rattle.floats.proofs.Signed.{number-finite, mul-number, product}
use Rattle.floats.proofs.Within.{within, within-size}
use Rattle.numbers.specs.Length.{tiny_below, scale_up, scale_down, tiny_parts, plain_length, scaled_back, length_of}
use Rattle.numbers.proofs.Units.{mul-size, snap-size, product-most, finite-sized, size-key}
use Rattle.numbers.proofs.Sizes.{size-digits}
use Rattle.numbers.proofs.Ruled.{Squared, squared, within-squared, plain-answers}

-- ---- the three constants
below-is : tiny_below ≡ fin false 1 (negsuc 399)
unfolding of_bits of_fields odd
below-is = refl

pub up_is : scale_up ≡ fin false 1 (pos 600)
unfolding of_bits of_fields odd
up_is = refl

pub down_is : scale_down ≡ fin false 1 (negsuc 599)
unfolding of_bits of_fields odd
down_is = refl

pub below-finite : Finite binary64 (fin false 1 (negsuc 399))
unfolding fits
below-finite = record { held = tt; finite = tt }

pub up-finite : Finite binary64 scale_up
up-finite = subst (λ (z : Float). Finite binary64 z) (sym up_is) (record { held = unfold fits in tt; finite = tt })

pub down-finite : Finite binary64 scale_down
down-finite = subst (λ (z : Float). Finite binary64 z) (sym down_is) (record { held = unfold fits in tt; finite = tt })

pub below-size : mag binary64 (fin false 1 (negsuc 399)) ≡ 2 ^ 674
unfolding mag
below-size = refl

pub up-size : mag binary64 scale_up ≡ 2 ^ 1674
up-size = ap (λ (z : Float). mag binary64 z) up_is ∙ (unfold mag in refl)

pub down-size : mag binary64 scale_down ≡ 2 ^ 474
down-size = ap (λ (z : Float). mag binary64 z) down_is ∙ (unfold mag in refl)

-- ---- which parts are tiny
offset-lt : (o a b : ℕ) {i j n : ℕ} → i < j → i ≡ o + a → j ≡ o + b → b ≡ n → a < n
offset-lt o a b h e g k = omega arith

offset-lt-back : (o a b : ℕ) {i j n : ℕ} → a < n → i ≡ o + a → j ≡ o + b → b ≡ n → i < j
offset-lt-back o a b h e g k = omega arith

-- |x| is below 2 ^ -400
tiny-part : (x : Float) → T (fits binary64 x) → T (lt (size_of x) tiny_below) → Finite binary64 x × (mag binary64 x < 2 ^ 674)
tiny-part nan f h = absurd (unfold size_of pick lt neg in h)
tiny-part (inf true) f h = absurd (unfold size_of pick lt neg of_bits of_fields odd in h)
tiny-part (inf false) f h = absurd (unfold size_of pick lt neg of_bits of_fields odd in h)
tiny-part (fin s m e) f h =
    let x = fin s m e in
    let p : Finite binary64 x = record { held = f; finite = tt } in
    let k = of_lt (number-finite (finite-sized p)) (number-finite below-finite) (subst (λ (z : Float). T (lt (size_of x) z)) below-is h) in
    (p, offset-lt (top binary64) (mag binary64 x) (mag binary64 (fin false 1 (negsuc 399))) k (size-key p) (key-fin binary64 false 1 (negsuc 399)) below-size)

-- |x| is 2 ^ -400 or more
large-part : {x : Float} → Finite binary64 x → lt (size_of x) tiny_below ≡ false → 2 ^ 674 ≤ mag binary64 x
large-part {x} p h = go (dec_le (2 ^ 674) (mag binary64 x))
  where
    go : Dec (2 ^ 674 ≤ mag binary64 x) → 2 ^ 674 ≤ mag binary64 x
    go (yes d) = d
    go (no d) =
        let k = lt_of_not-le d in
        absurd (subst T h (subst (λ (z : Float). T (lt (size_of x) z)) (sym below-is) (to-lt (number-finite (finite-sized p)) (number-finite below-finite) (offset-lt-back (top binary64) (mag binary64 x) (mag binary64 (fin false 1 (negsuc 399))) k (size-key p) (key-fin binary64 false 1 (negsuc 399)) below-size))))

-- ---- tiny parts
module _ {x : Float} (p : Finite binary64 x) (h : mag binary64 x < 2 ^ 674) where
  pub tiny-within : Within binary64 200 x
  tiny-within = within-size p (le_trans (le_of_lt h) (pow_mono {i = 674} {j = 1274} (lit≤ tt)))

  pub scaled-within : Within binary64 200 (x *₆₄ scale_up)
  scaled-within =
      within (lit≤ tt) (mul-number p up-finite)
      (le_trans (le_of_eq (mul-size p up-finite))
      (product-most 1274 (mag binary64 x) (mag binary64 scale_up) (lit≤ tt)
      (le_trans (mul-le-mul (le_of_lt h) (le_of_eq up-size)) (le_of_eq (sym (pow-add 2 674 1674) ∙ pow-add 2 1274 1074)))))

module _ (x y : Float) (f : T (fits binary64 x)) (g : T (fits binary64 y)) where
  pub tiny-parts : tiny_parts x y ≡ true → (Finite binary64 x × (mag binary64 x < 2 ^ 674)) × (Finite binary64 y × (mag binary64 y < 2 ^ 674))
  unfolding tiny_parts
  tiny-parts t =
      let a = lt (size_of x) tiny_below in
      let b = lt (size_of y) tiny_below in
      let u = subst T (sym t) tt in
      (tiny-part x f (and_l a b u), tiny-part y g (and_r a b u))

  -- tiny parts are scaled, and their length is scaled back
  pub length-tiny : tiny_parts x y ≡ true → (L : Float) × (plain_length (x *₆₄ scale_up) (y *₆₄ scale_up) ≡ answers L) × (length_of x y ≡ answers (L *₆₄ scale_down))
  unfolding length_of scaled_back
  length-tiny t =
      let u = tiny-parts t in
      let a = plain-answers (within-squared (scaled-within u.0.0 u.0.1) (scaled-within u.1.0 u.1.1)) in
      (a.0, a.1, pick_true (tiny_parts x y) (scaled_back (plain_length (x *₆₄ scale_up) (y *₆₄ scale_up))) (plain_length x y) t ∙ ap scaled_back a.1 ∙ onward-answers a.0 (λ l. answers (l *₆₄ scale_down)))

  -- any other length is 01's
  pub length-plain : tiny_parts x y ≡ false → length_of x y ≡ plain_length x y
  unfolding length_of
  length-plain t = pick-false (tiny_parts x y) (scaled_back (plain_length (x *₆₄ scale_up) (y *₆₄ scale_up))) (plain_length x y) t

-- ---- scaling
-- what is below 2 ^ 26, so also a tiny part, is scaled up with no rounding
pub scaled_exact : {x : Float} → Finite binary64 x → mag binary64 x < 2 ^ 1100 → mag binary64 (x *₆₄ scale_up) ≡ mag binary64 x * 2 ^ 600
scaled_exact {x} p h =
    let X = mag binary64 x in
    let d = size-digits p in
    let e : X * 2 ^ 600 ≡ d.0 * 2 ^ (d.1 + 600) = ap (λ (n : ℕ). n * 2 ^ 600) d.3 ∙ mul_assoc d.0 (2 ^ d.1) (2 ^ 600) ∙ ap (λ (n : ℕ). d.0 * n) (sym (pow-add 2 d.1 600)) in
    let small : d.0 * 2 ^ (d.1 + 600) < top binary64 = lt_of_le_of_lt (le_of_eq (sym e)) (lt_of_lt_of_le (mul-lt-mul_of_pos_right h (pow_pos 600)) (le_trans (le_of_eq (sym (pow-add 2 1100 600))) (unfold top in pow_mono {i = 1700} {j = 2098} (lit≤ tt)))) in
    mul-size p up-finite
    ∙ ap (λ (n : ℕ). product binary64 X n) up-size
    ∙ rounded-same binary64 (X * 2 ^ 1674) (2 ^ 1074 * 2 ^ 1074) (X * 2 ^ 600) (2 ^ 1074) (mul-pos (pow_pos 1074) (pow_pos 1074)) (pow_pos 1074) (cross X)
    ∙ ap (λ (n : ℕ). snap binary64 n) e
    ∙ snap-exact binary64 d.0 (d.1 + 600) d.2 small
    ∙ sym e
  where
    cross : (X : ℕ) → X * 2 ^ 1674 * 2 ^ 1074 ≡ X * 2 ^ 600 * (2 ^ 1074 * 2 ^ 1074)
    cross X = ap (λ (n : ℕ). X * n * 2 ^ 1074) (pow-add 2 600 1074) ∙ ap (λ (n : ℕ). n * 2 ^ 1074) (sym (mul_assoc X (2 ^ 600) (2 ^ 1074))) ∙ mul_assoc (X * 2 ^ 600) (2 ^ 1074) (2 ^ 1074)

pub scaled-size : {x : Float} → Finite binary64 x → mag binary64 x < 2 ^ 674 → mag binary64 (x *₆₄ scale_up) ≡ mag binary64 x * 2 ^ 600
scaled-size p h = scaled_exact p (lt_of_lt_of_le h (pow_mono {i = 674} {j = 1100} (lit≤ tt)))

-- what is scaled back is as large as what was scaled up
pub back-size : {z L : Float} → Finite binary64 z → Finite binary64 L → mag binary64 z * 2 ^ 600 ≤ mag binary64 L → mag binary64 z ≤ mag binary64 (L *₆₄ scale_down)
back-size {z} {L} p q h =
    let Z = mag binary64 z in
    le_trans (le_of_eq (sym (snap-size p)))
    (le_trans (rounded-mono binary64 Z (2 ^ 1074) (mag binary64 L * 2 ^ 474) (2 ^ 1074 * 2 ^ 1074) (pow_pos 1074) (mul-pos (pow_pos 1074) (pow_pos 1074)) (le_trans (le_of_eq (cross Z)) (mul-le-mul_right (2 ^ 1074) (mul-le-mul_right (2 ^ 474) h))))
    (le_of_eq (ap (λ (n : ℕ). product binary64 (mag binary64 L) n) (sym down-size) ∙ sym (mul-size q down-finite))))
  where
    cross : (Z : ℕ) → Z * (2 ^ 1074 * 2 ^ 1074) ≡ Z * 2 ^ 600 * 2 ^ 474 * 2 ^ 1074
    cross Z = sym (mul_assoc Z (2 ^ 1074) (2 ^ 1074)) ∙ ap (λ (n : ℕ). Z * n * 2 ^ 1074) (pow-add 2 600 474) ∙ ap (λ (n : ℕ). n * 2 ^ 1074) (sym (mul_assoc Z (2 ^ 600) (2 ^ 474)))

-- ---- the two cases of a length
-- by 01's rule: a part is 2 ^ -400 or more
pub record ByRule (x y l : Float) : Type 0 where
  pub parts : Squared x y
  pub is : plain_length x y ≡ answers l
  pub large : (2 ^ 674 ≤ mag binary64 x) ⊎ (2 ^ 674 ≤ mag binary64 y)

-- scaled: both are less
pub record Scaled (x y l : Float) : Type 0 where
  pub first : Finite binary64 x
  pub second : Finite binary64 y
  pub first-tiny : mag binary64 x < 2 ^ 674
  pub second-tiny : mag binary64 y < 2 ^ 674
  pub parts : Squared (x *₆₄ scale_up) (y *₆₄ scale_up)
  pub long : Float
  pub is : plain_length (x *₆₄ scale_up) (y *₆₄ scale_up) ≡ answers long
  pub back : long *₆₄ scale_down ≡ l

same_answer : (a b : Float) → answers a ≡ answers b → a ≡ b
same_answer a b h = cc

pub length-cases : (x y l : Float) → T (fits binary64 x) → T (fits binary64 y) → length_of x y ≡ answers l → ByRule x y l ⊎ Scaled x y l
unfolding tiny_parts
length-cases x y l f g e = go (tiny_parts x y) refl
  where
    large : (a b : Bool) → lt (size_of x) tiny_below ≡ a → lt (size_of y) tiny_below ≡ b → (a && b) ≡ false → Squared x y → (2 ^ 674 ≤ mag binary64 x) ⊎ (2 ^ 674 ≤ mag binary64 y)
    large false b p q h s = inl (large-part s.first p)
    large true false p q h s = inr (large-part s.second q)
    large true true p q h s = absurd (subst T h tt)

    go : (b : Bool) → tiny_parts x y ≡ b → ByRule x y l ⊎ Scaled x y l
    go true t =
        let u = tiny-parts x y f g t in
        let a = length-tiny x y f g t in
        inr (record {
          first = u.0.0;
          second = u.1.0;
          first-tiny = u.0.1;
          second-tiny = u.1.1;
          parts = within-squared (scaled-within u.0.0 u.0.1) (scaled-within u.1.0 u.1.1);
          long = a.0;
          is = a.1;
          back = same_answer (a.0 *₆₄ scale_down) l (sym a.2 ∙ e);
        })
    go false t =
        let is = sym (length-plain x y f g t) ∙ e in
        let s = squared x y l f g is in
        inl (record { parts = s; is = is; large = large (lt (size_of x) tiny_below) (lt (size_of y) tiny_below) refl refl t s })
