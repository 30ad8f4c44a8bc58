-- The length of two parts: which parts have one, that it is zero for no parts but zeros, and its size. A caller goes by these laws, and not by how `length_of` works a length out. Assumes nothing.
use Rattle.std.proofs.Common.{◌≡◌, ℕ, zero, ◌+◌, ◌*◌, ◌^◌, ◌<◌, ◌≤◌, Bool, true, false, T, ◌⊎◌, ◌↔◌, negsuc, sym, refl, ap, ◌∙◌, subst, inl, inr, zero-le, le_trans, le_of_eq, lt_of_lt_of_le, le_of_lt, lt_irrefl, mul-le-mul_right, mul-le-mul, mul-pos, one-mul, lt_of_not-le, zero-mul, arith, lit<, lit≤, pow_pos, pow_mono, pow-add}
use native.Mathlib.Decide.{dec_le}
use lib.Ieee.{Float, fin, binary64, fits, le, lt, eq, is_nan}
use lib.Ieee.Scale.{finite}
use Rattle.refusals.specs.Paper.{answers}
use Rattle.floats.specs.Numbers.{◌+₆₄◌, ◌*₆₄◌, ◌/₆₄◌, size_of, zero64, minus_zero}
use Rattle.floats.specs.Kinds.{Plain, Finite, Within}
use Rattle.floats.proofs.Keys.{mag}
use Rattle.floats.proofs.Order.{to_le}
use Rattle.floats.proofs.Rounded.{rounded, rounded-zero}
use Rattle.floats.proofs.Signed.{zero+, number-finite, mul-number, product, mul-nonneg, size-of-positive}
use Rattle.floats.proofs.Zeros.{mul-plain}
use Rattle.floats.proofs.Within.{finite-within, within, size-within, within-weaken, within-mul, within-add}
use Rattle.numbers.specs.Length.{scale_up, scale_down, tiny_parts, plain_length, length_of}
use Rattle.numbers.proofs.Units.{mul-size, nonneg-key, product-most, product-least, finite-sized, size-key, over-within}
use Rattle.numbers.proofs.Sizes.{root-finite, root-nonneg, root-plain, root-bounded}
use Rattle.numbers.proofs.Units.{zero-size}
use Rattle.numbers.proofs.Ruled.{within-squared, plain-answers, plain-zero, first_part, second-part, first_some, second-some}
use Rattle.numbers.proofs.Tiny.{down_is, below-finite, down-finite, below-size, down-size, scaled-within, length-tiny, length-plain, scaled-size, back-size, ByRule, Scaled, length-cases}

-- ---- the size of a scaled length
pub long-finite : {x y l : Float} → (s : Scaled x y l) → Finite binary64 s.long
unfolding plain_length
long-finite s = root-finite s.parts.both s.is

-- of scaled parts it is at most 2 ^ -399
long-within : {x y l : Float} → (s : Scaled x y l) → Within binary64 201 s.long
unfolding plain_length
long-within {x} {y} s =
    let a = within-mul (scaled-within s.first s.first-tiny) (scaled-within s.first s.first-tiny) (lit≤ tt) in
    let b = within-mul (scaled-within s.second s.second-tiny) (scaled-within s.second s.second-tiny) (lit≤ tt) in
    root-bounded 201 ((x *₆₄ scale_up) *₆₄ (x *₆₄ scale_up) +₆₄ (y *₆₄ scale_up) *₆₄ (y *₆₄ scale_up)) s.long (unfold fits in tt) (within-weaken (lit≤ tt) (within-add a b (lit< tt))) s.is

scaled_small : {x y l : Float} → Scaled x y l → Within binary64 0 l
scaled_small s =
    subst (λ (z : Float). Within binary64 0 z) s.back
    (within (lit≤ tt) (mul-number (long-finite s) down-finite)
    (le_trans (le_of_eq (mul-size (long-finite s) down-finite))
    (le_trans (product-most 675 (mag binary64 s.long) (mag binary64 scale_down) (lit≤ tt) (le_trans (mul-le-mul (size-within (long-within s)) (le_of_eq down-size)) (le_of_eq (sym (pow-add 2 1275 474) ∙ pow-add 2 675 1074))))
    (pow_mono {i = 675} {j = 1074} (lit≤ tt)))))

-- ---- zero only for zeros
none-positive : (a : ℕ) → (0 < a → ⊥) → a ≡ 0
none-positive a h = omega (arith, le-of-not a h)
  where
    le-of-not : (a : ℕ) → (0 < a → ⊥) → a ≤ 0
    le-of-not a h = go (dec_le a 0)
      where
        go : Dec (a ≤ 0) → a ≤ 0
        go (yes p) = p
        go (no p) = absurd (h (lt_of_not-le p))

pub scaled-some : {x : Float} → Finite binary64 x → mag binary64 x < 2 ^ 674 → 0 < mag binary64 x → 2 ^ 600 ≤ mag binary64 (x *₆₄ scale_up)
scaled-some {x} p h k = le_trans (le_of_eq (sym (one-mul (2 ^ 600)))) (le_trans (mul-le-mul_right (2 ^ 600) k) (le_of_eq (sym (scaled-size p h))))

-- 2 ^ -474, of 2 ^ 600 units
mid-size : mag binary64 (fin false 1 (negsuc 473)) ≡ 2 ^ 600
unfolding mag
mid-size = refl

abbrev no-units : {a : ℕ} (c : ℕ) → 2 ^ c ≤ a → a ≡ 0 → ⊥
no-units c h e = lt_irrefl 0 (lt_of_lt_of_le (pow_pos c) (le_trans h (le_of_eq e)))

pub scaled-zero : {x y l : Float} → Scaled x y l → (mag binary64 l ≡ 0) ↔ ((mag binary64 x ≡ 0) × (mag binary64 y ≡ 0))
scaled-zero {x} {y} {l} s = (λ h. (none-positive (mag binary64 x) (λ k. long-some h (first_some s.parts s.is 600 126 refl (lit≤ tt) at mid-size (scaled-some s.first s.first-tiny k))), none-positive (mag binary64 y) (λ k. long-some h (second-some s.parts s.is 600 126 refl (lit≤ tt) at mid-size (scaled-some s.second s.second-tiny k)))), λ h. there h.0 h.1)
  where
    at : Finite binary64 (fin false 1 (negsuc 473))
    at = record { held = unfold fits in tt; finite = tt }

    size-l : mag binary64 l ≡ product binary64 (mag binary64 s.long) (mag binary64 scale_down)
    size-l = ap (λ (z : Float). mag binary64 z) (sym s.back) ∙ mul-size (long-finite s) down-finite

    long-some : mag binary64 l ≡ 0 → 2 ^ 600 ≤ mag binary64 s.long → ⊥
    long-some h k = no-units 0 (le_trans (product-least 0 (mag binary64 s.long) (mag binary64 scale_down) zero-le (le_trans (le_of_eq (one-mul (2 ^ 1074) ∙ pow-add 2 600 474)) (mul-le-mul k (le_of_eq (sym down-size))))) (le_of_eq (sym size-l))) h

    nothing : {z : Float} → Finite binary64 z → mag binary64 z < 2 ^ 674 → mag binary64 z ≡ 0 → mag binary64 (z *₆₄ scale_up) ≡ 0
    nothing p k h = scaled-size p k ∙ ap (λ (n : ℕ). n * 2 ^ 600) h ∙ zero-mul (2 ^ 600)

    there : mag binary64 x ≡ 0 → mag binary64 y ≡ 0 → mag binary64 l ≡ 0
    there a b =
        size-l
        ∙ ap (λ (n : ℕ). product binary64 n (mag binary64 scale_down)) (plain-zero s.parts s.is (nothing s.first s.first-tiny a) (nothing s.second s.second-tiny b))
        ∙ ap (λ (n : ℕ). rounded binary64 n (2 ^ 1074 * 2 ^ 1074)) (zero-mul (mag binary64 scale_down))
        ∙ rounded-zero binary64 (2 ^ 1074 * 2 ^ 1074) (mul-pos (pow_pos 1074) (pow_pos 1074))

rule-zero : {x y l : Float} → ByRule x y l → (mag binary64 l ≡ 0) ↔ ((mag binary64 x ≡ 0) × (mag binary64 y ≡ 0))
rule-zero {x} {y} {l} r = (λ h. absurd (no-units 674 (least r.large) h), λ h. plain-zero r.parts r.is h.0 h.1)
  where
    least : (2 ^ 674 ≤ mag binary64 x) ⊎ (2 ^ 674 ≤ mag binary64 y) → 2 ^ 674 ≤ mag binary64 l
    least (inl h) = first_some r.parts r.is 674 274 refl (lit≤ tt) below-finite below-size h
    least (inr h) = second-some r.parts r.is 674 274 refl (lit≤ tt) below-finite below-size h

-- 2 ^ -600 is not below zero, and no -0.0
down-nonneg : T (le zero+ scale_down)
down-nonneg = subst (λ (z : Float). T (le zero+ z)) (sym down_is) (unfold le lt eq in tt)

down-plain : Plain binary64 scale_down
unfolding minus_zero is_nan
down-plain = subst (Plain binary64) (sym down_is) (record { held = unfold fits in tt; number = tt; unsigned = tt })

module _ (x y l : Float) (f : T (fits binary64 x)) (g : T (fits binary64 y)) (e : length_of x y ≡ answers l) where
  -- the parts are finite
  pub parts-finite : Finite binary64 x × Finite binary64 y
  parts-finite = go (length-cases x y l f g e)
    where
      go : ByRule x y l ⊎ Scaled x y l → Finite binary64 x × Finite binary64 y
      go (inl r) = (r.parts.first, r.parts.second)
      go (inr s) = (s.first, s.second)

  -- so is the length
  pub length-finite : Finite binary64 l
  unfolding plain_length
  length-finite = go (length-cases x y l f g e)
    where
      go : ByRule x y l ⊎ Scaled x y l → Finite binary64 l
      go (inl r) = root-finite r.parts.both r.is
      go (inr s) = finite-within (scaled_small s)

  -- a length is zero exactly where both parts are
  pub length-zero-only : T (eq l zero64) ↔ (T (eq x zero64) × T (eq y zero64))
  length-zero-only =
      let z = sizes (length-cases x y l f g e) in
      let a = zero-size parts-finite.0 in
      let b = zero-size parts-finite.1 in
      let c = zero-size length-finite in
      (λ h. (a.1 (z.0 (c.0 h)).0, b.1 (z.0 (c.0 h)).1), λ h. c.1 (z.1 (a.0 h.0, b.0 h.1)))
    where
      sizes : ByRule x y l ⊎ Scaled x y l → (mag binary64 l ≡ 0) ↔ ((mag binary64 x ≡ 0) × (mag binary64 y ≡ 0))
      sizes (inl r) = rule-zero r
      sizes (inr s) = scaled-zero s

  -- it is not negative
  pub length-nonneg : T (le zero+ l)
  unfolding plain_length
  length-nonneg = go (length-cases x y l f g e)
    where
      go : ByRule x y l ⊎ Scaled x y l → T (le zero+ l)
      go (inl r) = root-nonneg r.parts.both r.is
      go (inr s) = subst (λ (z : Float). T (le zero+ z)) s.back (mul-nonneg (long-finite s) down-finite (root-nonneg s.parts.both s.is) down-nonneg)

  -- nor is it -0.0
  pub length-unsigned : Plain binary64 l
  unfolding plain_length
  length-unsigned = go (length-cases x y l f g e)
    where
      go : ByRule x y l ⊎ Scaled x y l → Plain binary64 l
      go (inl r) = root-plain r.parts.both r.is
      go (inr s) =
          subst (Plain binary64) s.back
          (mul-plain (root-plain s.parts.both s.is) down-plain (long-finite s) down-finite (root-nonneg s.parts.both s.is) down-nonneg)

  -- each part is at most the length, in units
  pub part-sizes : (mag binary64 x ≤ mag binary64 l) × (mag binary64 y ≤ mag binary64 l)
  part-sizes = go (length-cases x y l f g e)
    where
      far : 2 ^ 563 ≤ 2 ^ 674
      far = pow_mono {i = 563} {j = 674} (lit≤ tt)

      other : (a b : ℕ) → 2 ^ 674 ≤ a → a ≤ mag binary64 l → (2 ^ 563 ≤ b → b ≤ mag binary64 l) → b ≤ mag binary64 l
      other a b h k i = elim (dec_le (2 ^ 563) b) [
        | yes d ↦ i d
        | no d ↦ le_trans (le_of_lt (lt_of_not-le d)) (le_trans far (le_trans h k))
      ]

      rule : (r : ByRule x y l) → (2 ^ 674 ≤ mag binary64 x) ⊎ (2 ^ 674 ≤ mag binary64 y) → (mag binary64 x ≤ mag binary64 l) × (mag binary64 y ≤ mag binary64 l)
      rule r (inl h) = let a = first_part r.parts r.is (le_trans far h) in (a, other (mag binary64 x) (mag binary64 y) h a (second-part r.parts r.is))
      rule r (inr h) = let a = second-part r.parts r.is (le_trans far h) in (other (mag binary64 y) (mag binary64 x) h a (first_part r.parts r.is), a)

      scaled : (s : Scaled x y l) {z : Float} → Finite binary64 z → mag binary64 z < 2 ^ 674 → (2 ^ 563 ≤ mag binary64 (z *₆₄ scale_up) → mag binary64 (z *₆₄ scale_up) ≤ mag binary64 s.long) → mag binary64 z ≤ mag binary64 l
      scaled s {z} p h k = elim (dec_le 1 (mag binary64 z)) [
        | yes d ↦
            subst (λ (w : Float). mag binary64 z ≤ mag binary64 w) s.back
            (back-size p (long-finite s) (le_trans (le_of_eq (sym (scaled-size p h))) (k (le_trans (pow_mono {i = 563} {j = 600} (lit≤ tt)) (scaled-some p h d)))))
        | no d ↦ le_trans (small (mag binary64 z) (lt_of_not-le d)) zero-le
      ]
        where
          small : (a : ℕ) → a < 1 → a ≤ 0
          small a h = omega arith

      go : ByRule x y l ⊎ Scaled x y l → (mag binary64 x ≤ mag binary64 l) × (mag binary64 y ≤ mag binary64 l)
      go (inl r) = rule r r.large
      go (inr s) = (scaled s s.first s.first-tiny (first_part s.parts s.is), scaled s s.second s.second-tiny (second-part s.parts s.is))

  -- each part is at most the length
  pub part-at-most : T (le (size_of x) l) × T (le (size_of y) l)
  part-at-most = (most parts-finite.0 part-sizes.0, most parts-finite.1 part-sizes.1)
    where
      most : {z : Float} → Finite binary64 z → mag binary64 z ≤ mag binary64 l → T (le (size_of z) l)
      most {z} p h = to_le (number-finite (finite-sized p)) (number-finite length-finite) (omega (arith, size-key p, nonneg-key (number-finite length-finite) length-nonneg))

-- ---- parts of at most 2 ^ 41
module _ {x y : Float} (X : Within binary64 41 x) (Y : Within binary64 41 y) where
  wide : {z : Float} → Within binary64 41 z → Within binary64 200 z
  wide w = within-weaken (lit≤ tt) w

  -- they have a length
  pub length-answers : (l : Float) × (length_of x y ≡ answers l)
  length-answers = go (tiny_parts x y) refl
    where
      go : (b : Bool) → tiny_parts x y ≡ b → (l : Float) × (length_of x y ≡ answers l)
      go true t = let a = length-tiny x y X.held Y.held t in (a.0 *₆₄ scale_down, a.2)
      go false t = let a = plain-answers (within-squared (wide X) (wide Y)) in (a.0, length-plain x y X.held Y.held t ∙ a.1)

  -- it is at most 2 ^ 42
  pub length-within : {l : Float} → length_of x y ≡ answers l → Within binary64 42 l
  unfolding plain_length
  length-within {l} e = go (length-cases x y l X.held Y.held e)
    where
      go : ByRule x y l ⊎ Scaled x y l → Within binary64 42 l
      go (inl r) = root-bounded 42 (x *₆₄ x +₆₄ y *₆₄ y) l (unfold fits in tt) (within-weaken (lit≤ tt) (within-add (within-mul X X (lit≤ tt)) (within-mul Y Y (lit≤ tt)) (lit< tt))) r.is
      go (inr s) = within-weaken zero-le (scaled_small s)

-- ---- a part over a length that is not zero is at most 1 in size
module _ {x y l : Float} (X : Finite binary64 x) (Y : Finite binary64 y) (e : length_of x y ≡ answers l) (h : T (lt zero+ l)) where
  pub first-over : Within binary64 0 (x /₆₄ l)
  first-over =
      let q = length-finite x y l X.held Y.held e in
      over-within X q (size-of-positive q h) (part-sizes x y l X.held Y.held e).0

  pub second-over : Within binary64 0 (y /₆₄ l)
  second-over =
      let q = length-finite x y l X.held Y.held e in
      over-within Y q (size-of-positive q h) (part-sizes x y l X.held Y.held e).1
