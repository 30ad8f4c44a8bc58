-- The sizes of products, of sums of what is not negative, and of |x|, in units of the least value. Assumes nothing.
use Rattle.std.proofs.Common.{◌≡◌, ℕ, zero, ◌+◌, ◌-◌, ◌*◌, ◌^◌, ◌<◌, ◌≤◌, Bool, true, false, not, T, ◌↔◌, sym, refl, ap, ◌∙◌, subst, le_trans, le_of_eq, lt_of_lt_of_le, lt_of_le_of_lt, mul-le-mul_right, mul_assoc, mul_comm, mul-pos, arith, lit≤, pow_pos}
use lib.Ieee.{Float, nan, inf, fin, binary64, up, down, neg, le, lt, eq, unlike, add, of_bits, of_fields, odd}
use lib.Ieee.Fits.{down_pos}
use lib.Ieee.Scale.{finite}
use Rattle.floats.specs.Pick.{pick}
use Rattle.floats.specs.Numbers.{◌+₆₄◌, ◌*₆₄◌, ◌/₆₄◌, size_of, zero64}
use Rattle.floats.specs.Kinds.{Number, Finite, Within}
use Rattle.floats.proofs.Keys.{top, top_pos, mag, key, minus?, offset, mag-exact}
use Rattle.floats.proofs.Order.{of_lt, to-eq, of_eq, nlt→le}
use Rattle.floats.proofs.Exact.{round-held, zero-key}
use Rattle.floats.proofs.Rounded.{rounded, snap, mag-le, mag-round, rounded-le, rounded-mono, rounded-same, rounded-zero, snap-pow}
use Rattle.floats.proofs.Signed.{zero+, number-zero, number-finite, key-is, key-neg, key-add, add-number, mul-number, key-mul, product, of-nonneg, to-nonneg, add-mono, neg-finite, div-number, key-div}
use Rattle.floats.proofs.Within.{finite-within, within, within-zero}

-- ---- sizes of products and sums, in units
-- the same place in the order, the same distance from zero
offset-size : (o : ℕ) (s t : Bool) (a b : ℕ) → a ≤ o → b ≤ o → offset o s a ≡ offset o t b → a ≡ b
offset-size o true true a b p q h = omega arith
offset-size o true false a b p q h = omega arith
offset-size o false true a b p q h = omega arith
offset-size o false false a b p q h = omega arith

pub mul-size : {x y : Float} → Finite binary64 x → Finite binary64 y → mag binary64 (x *₆₄ y) ≡ product binary64 (mag binary64 x) (mag binary64 y)
mul-size {x} {y} p q =
    offset-size (top binary64) (minus? (x *₆₄ y)) (unlike (minus? x) (minus? y)) (mag binary64 (x *₆₄ y)) (product binary64 (mag binary64 x) (mag binary64 y))
    (mag-le binary64 (x *₆₄ y) (mul-number p q).held) (rounded-le binary64 (mag binary64 x * mag binary64 y) (2 ^ 1074 * 2 ^ 1074))
    (sym (key-is binary64 (x *₆₄ y)) ∙ key-mul p q)

-- what is not negative stands above zero by its size
pub nonneg-key : {x : Float} → Number binary64 x → T (le zero+ x) → key binary64 x ≡ top binary64 + mag binary64 x
nonneg-key {x} p h = key-is binary64 x ∙ side (minus? x) (mag binary64 x) (top binary64) (top_pos binary64) (le_trans (of-nonneg p h) (le_of_eq (key-is binary64 x)))
  where
    side : (s : Bool) (a o : ℕ) → 0 < o → o ≤ offset o s a → offset o s a ≡ o + a
    side true a o p h = omega arith
    side false a o p h = refl

-- a square is not negative
pub square-nonneg : {x : Float} → Finite binary64 x → T (le zero+ (x *₆₄ x))
square-nonneg {x} p = to-nonneg (mul-number p p) (go (minus? x) (top binary64) (product binary64 (mag binary64 x) (mag binary64 x)) (key-mul p p))
  where
    go : (s : Bool) (o a : ℕ) {k : ℕ} → k ≡ offset o (unlike s s) a → o ≤ k
    go true o a h = omega arith
    go false o a h = omega arith

-- the sum of two numbers that are not negative is not negative
pub add-nonneg : {x y : Float} → Finite binary64 x → Finite binary64 y → T (le zero+ x) → T (le zero+ y) → T (le zero+ (x +₆₄ y))
unfolding add
add-nonneg {x} {y} p q h k =
    let z = finite-within (within-zero binary64) in
    subst (λ (a : Float). T (le a (x +₆₄ y))) nothing (add-mono z z p q h k)
  where
    nothing : add binary64 zero+ zero+ ≡ zero+
    nothing = refl

-- and its size is the sum of the sizes, rounded
pub add-size : {x y : Float} → Finite binary64 x → Finite binary64 y → T (le zero+ x) → T (le zero+ y) → mag binary64 (x +₆₄ y) ≡ snap binary64 (mag binary64 x + mag binary64 y)
add-size {x} {y} p q h k =
    let a = nonneg-key (number-finite p) h in
    let b = nonneg-key (number-finite q) k in
    let c = nonneg-key (add-number p q) (add-nonneg p q h k) in
    let o = top binary64 in
    let X = mag binary64 x in
    let Y = mag binary64 y in
    let d : key binary64 x + key binary64 y - (o + o) ≡ X + Y = omega arith in
    let e : o + o - (key binary64 x + key binary64 y) ≡ 0 = omega arith in
    let g : snap binary64 (key binary64 x + key binary64 y - (o + o)) ≡ snap binary64 (X + Y) = ap (λ (n : ℕ). snap binary64 n) d in
    let i : snap binary64 (o + o - (key binary64 x + key binary64 y)) ≡ 0 = ap (λ (n : ℕ). snap binary64 n) e ∙ rounded-zero binary64 (2 ^ 1074) (pow_pos 1074) in
    let j = key-add p q in
    omega arith

-- a value's size is kept by rounding
pub snap-size : {x : Float} → Finite binary64 x → snap binary64 (mag binary64 x) ≡ mag binary64 x
snap-size {x} = go x
  where
    go : (x : Float) → Finite binary64 x → snap binary64 (mag binary64 x) ≡ mag binary64 x
    go nan p = absurd p.finite
    go (inf s) p = absurd p.finite
    go (fin s m e) p =
        rounded-same binary64 (mag binary64 (fin s m e)) (2 ^ 1074) (m * up e) (down e) (pow_pos 1074) (down_pos e) (mag-exact binary64 s m e p.held)
        ∙ sym (mag-round binary64 s (m * up e) (down e))
        ∙ ap (λ (z : Float). mag binary64 z) (round-held binary64 s m e p.held)

-- a product, against a power of two
module _ (c X Y : ℕ) (r : c ≤ 2097) where
  pub product-most : X * Y ≤ 2 ^ c * 2 ^ 1074 → product binary64 X Y ≤ 2 ^ c
  product-most h =
      le_trans (rounded-mono binary64 (X * Y) (2 ^ 1074 * 2 ^ 1074) (2 ^ c) (2 ^ 1074) (mul-pos (pow_pos 1074) (pow_pos 1074)) (pow_pos 1074) (le_trans (mul-le-mul_right (2 ^ 1074) h) (le_of_eq (mul_assoc (2 ^ c) (2 ^ 1074) (2 ^ 1074)))))
      (le_of_eq (snap-pow binary64 c r))

  pub product-least : 2 ^ c * 2 ^ 1074 ≤ X * Y → 2 ^ c ≤ product binary64 X Y
  product-least h =
      le_trans (le_of_eq (sym (snap-pow binary64 c r)))
      (rounded-mono binary64 (2 ^ c) (2 ^ 1074) (X * Y) (2 ^ 1074 * 2 ^ 1074) (pow_pos 1074) (mul-pos (pow_pos 1074) (pow_pos 1074)) (le_trans (le_of_eq (sym (mul_assoc (2 ^ c) (2 ^ 1074) (2 ^ 1074)))) (mul-le-mul_right (2 ^ 1074) h)))

-- ---- |x|
pub zero_is : zero64 ≡ zero+
unfolding of_bits of_fields odd
zero_is = refl

pub finite-sized : {x : Float} → Finite binary64 x → Finite binary64 (size_of x)
unfolding size_of pick
finite-sized {x} p = go (lt x zero64)
  where
    go : (b : Bool) → Finite binary64 (pick b (neg x) x)
    go true = neg-finite p
    go false = p

-- |x| stands above zero by the size of x
pub size-key : {x : Float} → Finite binary64 x → key binary64 (size_of x) ≡ top binary64 + mag binary64 x
unfolding size_of pick
size-key {x} p = go (lt x zero64) refl
  where
    side : (s : Bool) (a o : ℕ) → a ≤ o → offset o s a < o → o + o - offset o s a ≡ o + a
    side true a o h k = omega arith
    side false a o h k = omega arith

    go : (b : Bool) → lt x zero64 ≡ b → key binary64 (pick b (neg x) x) ≡ top binary64 + mag binary64 x
    go true h =
        let k : key binary64 x < top binary64 = lt_of_lt_of_le (of_lt (number-finite p) number-zero (subst T (sym h ∙ ap (lt x) zero_is) tt)) (le_of_eq (zero-key binary64 false)) in
        key-neg (number-finite p)
        ∙ ap (λ (n : ℕ). top binary64 + top binary64 - n) (key-is binary64 x)
        ∙ side (minus? x) (mag binary64 x) (top binary64) (mag-le binary64 x p.held) (lt_of_le_of_lt (le_of_eq (sym (key-is binary64 x))) k)
    go false h = nonneg-key (number-finite p) (nlt→le number-zero (number-finite p) (subst (λ (b : Bool). T (not b)) (sym h ∙ ap (lt x) zero_is) tt))

-- ---- a quotient of x by a z that is as large, or larger, is 1 at most in size
pub over-within : {x z : Float} → Finite binary64 x → Finite binary64 z → 0 < mag binary64 z → mag binary64 x ≤ mag binary64 z → Within binary64 0 (x /₆₄ z)
over-within {x} {z} p r n h =
    let X = mag binary64 x in
    let Z = mag binary64 z in
    let a : mag binary64 (x /₆₄ z) ≡ rounded binary64 X Z =
    offset-size (top binary64) (minus? (x /₆₄ z)) (unlike (minus? x) (minus? z)) (mag binary64 (x /₆₄ z)) (rounded binary64 X Z) (mag-le binary64 (x /₆₄ z) (div-number p r n).held) (rounded-le binary64 X Z) (sym (key-is binary64 (x /₆₄ z)) ∙ key-div p r n) in
    let b : rounded binary64 X Z ≤ snap binary64 (2 ^ 1074) = rounded-mono binary64 X Z (2 ^ 1074) (2 ^ 1074) n (pow_pos 1074) (le_trans (mul-le-mul_right (2 ^ 1074) h) (le_of_eq (mul_comm Z (2 ^ 1074)))) in
    within (lit≤ tt) (div-number p r n) (le_trans (le_of_eq a) (le_trans b (le_of_eq (snap-pow binary64 1074 (lit≤ tt)))))

-- ---- zero, by the size
pub zero-size : {x : Float} → Finite binary64 x → T (eq x zero64) ↔ (mag binary64 x ≡ 0)
zero-size {x} p = (
  λ h. back (minus? x) (mag binary64 x) (top binary64) (top_pos binary64) (mag-le binary64 x p.held) (sym (key-is binary64 x) ∙ of_eq (number-finite p) number-zero (subst (λ (z : Float). T (eq x z)) zero_is h) ∙ zero-key binary64 false),
  λ h. subst (λ (z : Float). T (eq x z)) (sym zero_is) (to-eq (number-finite p) number-zero (key-is binary64 x ∙ there (minus? x) (mag binary64 x) (top binary64) h ∙ sym (zero-key binary64 false))),
)
  where
    back : (s : Bool) (a o : ℕ) → 0 < o → a ≤ o → offset o s a ≡ o → a ≡ 0
    back true a o p h e = omega arith
    back false a o p h e = omega arith

    there : (s : Bool) (a o : ℕ) → a ≡ 0 → offset o s a ≡ o
    there true a o e = omega arith
    there false a o e = omega arith
