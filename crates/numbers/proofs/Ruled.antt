-- 01's length, the root of the rounded sum of the rounded squares: which parts have one, and that it is as large as each part of 2 ^ -511 or more. Assumes nothing.
use Rattle.std.proofs.Common.{◌≡◌, ℕ, zero, ◌+◌, ◌*◌, ◌^◌, ◌<◌, ◌≤◌, true, false, T, sym, ap, ◌∙◌, ap₂, zero-le, le_trans, le_of_eq, mul-le-mul_right, mul-le-mul, mul-pos, zero-mul, arith, lit<, lit≤, pow_pos, pow-add}
use lib.Ieee.{Float, nan, inf, fin, binary64, low, fits, le, add, mul}
use lib.Ieee.Fits.{mul-fits, add-fits}
use lib.Ieee.Scale.{finite}
use Rattle.refusals.specs.Paper.{Reason, answers, refuses, only}
use Rattle.floats.specs.Numbers.{◌+₆₄◌, ◌*₆₄◌}
use Rattle.floats.specs.Kinds.{Finite, Within}
use Rattle.floats.proofs.Keys.{mag}
use Rattle.floats.proofs.Exact.{zero-mag}
use Rattle.floats.proofs.Rounded.{snap, rounded-zero}
use Rattle.floats.proofs.Signed.{zero+, product, snap-grows}
use Rattle.floats.proofs.Within.{finite-within, within-zero, within-mul, within-add}
use Rattle.numbers.specs.Root.{root_of}
use Rattle.numbers.specs.Length.{plain_length}
use Rattle.numbers.proofs.Units.{mul-size, square-nonneg, add-nonneg, add-size, snap-size, product-least}
use Rattle.numbers.proofs.Squares.{square-least}
use Rattle.numbers.proofs.Sizes.{root-answers, root-nearer, root-at-least, root-at-most, root-size-mono}

-- ---- parts that have a length
-- the parts, their squares and the sum of these are finite
pub record Squared (x y : Float) : Type 0 where
  pub first : Finite binary64 x
  pub second : Finite binary64 y
  pub first-square : Finite binary64 (x *₆₄ x)
  pub second-square : Finite binary64 (y *₆₄ y)
  pub both : Finite binary64 (x *₆₄ x +₆₄ y *₆₄ y)

no_answer : {A : Type 0} (n : Reason) (v : A) → refuses n ≡ answers v → ⊥
no_answer n v h = let z : ◌≡◌ {A = ℕ} 0 1 = cc in omega arith

-- an answer is no refusal
pub no-refusal : {A : Type 0} (n : Reason) (v : A) → answers v ≡ refuses n → ⊥
no-refusal n v h = no_answer n v (sym h)

rooted-finite : (s l : Float) → root_of s ≡ answers l → T (finite s)
unfolding root_of
rooted-finite nan l h = absurd (no_answer (only 5) l h)
rooted-finite (inf t) l h = absurd (no_answer (only 5) l h)
rooted-finite (fin t m e) l h = tt

add-finite : (x y : Float) → T (finite (x +₆₄ y)) → T (finite x) × T (finite y)
unfolding add
add-finite nan y h = absurd h
add-finite (inf s) nan h = absurd h
add-finite (inf true) (inf true) h = absurd h
add-finite (inf true) (inf false) h = absurd h
add-finite (inf false) (inf true) h = absurd h
add-finite (inf false) (inf false) h = absurd h
add-finite (inf s) (fin t n d) h = absurd h
add-finite (fin s m e) nan h = absurd h
add-finite (fin s m e) (inf t) h = absurd h
add-finite (fin s m e) (fin t n d) h = (tt, tt)

square-finite : (x : Float) → T (finite (x *₆₄ x)) → T (finite x)
unfolding mul
square-finite nan h = absurd h
square-finite (inf s) h = absurd h
square-finite (fin s m e) h = tt

pub squared : (x y l : Float) → T (fits binary64 x) → T (fits binary64 y) → plain_length x y ≡ answers l → Squared x y
unfolding plain_length
squared x y l f g e =
    let s = rooted-finite (x *₆₄ x +₆₄ y *₆₄ y) l e in
    let t = add-finite (x *₆₄ x) (y *₆₄ y) s in
    record {
      first = record { held = f; finite = square-finite x t.0 };
      second = record { held = g; finite = square-finite y t.1 };
      first-square = record { held = mul-fits binary64 x x; finite = t.0 };
      second-square = record { held = mul-fits binary64 y y; finite = t.1 };
      both = record { held = add-fits binary64 (x *₆₄ x) (y *₆₄ y); finite = s };
    }

-- parts of at most 2 ^ 200 have one
module _ {x y : Float} (X : Within binary64 200 x) (Y : Within binary64 200 y) where
  pub within-squared : Squared x y
  within-squared =
      let a = within-mul X X (lit≤ tt) in
      let b = within-mul Y Y (lit≤ tt) in
      record {
        first = finite-within X;
        second = finite-within Y;
        first-square = finite-within a;
        second-square = finite-within b;
        both = finite-within (within-add a b (lit< tt));
      }

pub sum_nonneg : {x y : Float} → Squared x y → T (le zero+ (x *₆₄ x +₆₄ y *₆₄ y))
sum_nonneg s = add-nonneg s.first-square s.second-square (square-nonneg s.first) (square-nonneg s.second)

pub plain-answers : {x y : Float} → Squared x y → (l : Float) × (plain_length x y ≡ answers l)
unfolding plain_length
plain-answers {x} {y} s = root-answers (x *₆₄ x +₆₄ y *₆₄ y) s.both (sum_nonneg s)

-- ---- a length against a value
module _ {x y l : Float} (s : Squared x y) (e : plain_length x y ≡ answers l) where
  -- a value that is at most the two squares together is at most their rounded sum
  sum-least : {z : Float} → Finite binary64 z → mag binary64 z ≤ mag binary64 (x *₆₄ x) + mag binary64 (y *₆₄ y) → mag binary64 z ≤ mag binary64 (x *₆₄ x +₆₄ y *₆₄ y)
  sum-least {z} p h =
      le_trans (le_of_eq (sym (snap-size p)))
      (le_trans (snap-grows binary64 (mag binary64 z) (mag binary64 (x *₆₄ x) + mag binary64 (y *₆₄ y)) h)
      (le_of_eq (sym (add-size s.first-square s.second-square (square-nonneg s.first) (square-nonneg s.second)))))

  -- so each square is
  pub first-least : mag binary64 (x *₆₄ x) ≤ mag binary64 (x *₆₄ x +₆₄ y *₆₄ y)
  first-least = sum-least s.first-square (omega arith)

  pub second-least : mag binary64 (y *₆₄ y) ≤ mag binary64 (x *₆₄ x +₆₄ y *₆₄ y)
  second-least = sum-least s.second-square (omega arith)

  -- it is as large as any value whose square is at most the sum
  over-sum : {v : Float} → Finite binary64 v → mag binary64 v * mag binary64 v ≤ mag binary64 (x *₆₄ x +₆₄ y *₆₄ y) * 2 ^ 1074 → mag binary64 v ≤ mag binary64 l
  unfolding plain_length
  over-sum {v} p h = root-at-least (mag binary64 (x *₆₄ x +₆₄ y *₆₄ y) * 2 ^ 1074) (mag binary64 l) (mag binary64 v) (root-nearer s.both e p).above h

  over_first : {v : Float} → Finite binary64 v → mag binary64 v * mag binary64 v ≤ mag binary64 (x *₆₄ x) * 2 ^ 1074 → mag binary64 v ≤ mag binary64 l
  over_first p h = over-sum p (le_trans h (mul-le-mul_right (2 ^ 1074) first-least))

  over-second : {v : Float} → Finite binary64 v → mag binary64 v * mag binary64 v ≤ mag binary64 (y *₆₄ y) * 2 ^ 1074 → mag binary64 v ≤ mag binary64 l
  over-second p h = over-sum p (le_trans h (mul-le-mul_right (2 ^ 1074) second-least))

  -- zeros have the length zero
  pub plain-zero : mag binary64 x ≡ 0 → mag binary64 y ≡ 0 → mag binary64 l ≡ 0
  unfolding plain_length
  plain-zero a b =
      let c = none s.first a in
      let d = none s.second b in
      let sum : mag binary64 (x *₆₄ x +₆₄ y *₆₄ y) ≡ 0 =
      add-size s.first-square s.second-square (square-nonneg s.first) (square-nonneg s.second) ∙ ap₂ (λ (m n : ℕ). snap binary64 (m + n)) c d ∙ rounded-zero binary64 (2 ^ 1074) (pow_pos 1074) in
      let N = mag binary64 (x *₆₄ x +₆₄ y *₆₄ y) * 2 ^ 1074 in
      let z = root-at-most N (mag binary64 l) (mag binary64 zero+) (root-nearer s.both e (finite-within (within-zero binary64))).under (le_trans (le_of_eq (ap (λ (n : ℕ). n * 2 ^ 1074) sum ∙ zero-mul (2 ^ 1074))) zero-le) in
      low (mag binary64 l) (mag binary64 zero+) z (zero-mag binary64 false)
    where
      low : (a b : ℕ) → a ≤ b → b ≡ 0 → a ≡ 0
      low a b h e = omega arith

      none : {z : Float} → Finite binary64 z → mag binary64 z ≡ 0 → mag binary64 (z *₆₄ z) ≡ 0
      none {z} p h = mul-size p p ∙ ap (λ (n : ℕ). product binary64 n n) h ∙ rounded-zero binary64 (2 ^ 1074 * 2 ^ 1074) (mul-pos (pow_pos 1074) (pow_pos 1074))

  -- a part of 2 ^ c units gives a length of as many
  module _ (c d : ℕ) (i : c + c ≡ d + 1074) (r : d ≤ 2097) {v : Float} (w : Finite binary64 v) (k : mag binary64 v ≡ 2 ^ c) where
    square-over : {z : Float} → Finite binary64 z → 2 ^ c ≤ mag binary64 z → mag binary64 v * mag binary64 v ≤ mag binary64 (z *₆₄ z) * 2 ^ 1074
    square-over {z} p h =
        let g : 2 ^ c * 2 ^ c ≡ 2 ^ d * 2 ^ 1074 = sym (pow-add 2 c c) ∙ ap (λ (n : ℕ). 2 ^ n) i ∙ pow-add 2 d 1074 in
        le_trans (le_of_eq (ap₂ (λ (m n : ℕ). m * n) k k ∙ g))
        (mul-le-mul_right (2 ^ 1074) (le_trans (product-least d (mag binary64 z) (mag binary64 z) r (le_trans (le_of_eq (sym g)) (mul-le-mul h h))) (le_of_eq (sym (mul-size p p)))))

    pub first_some : 2 ^ c ≤ mag binary64 x → 2 ^ c ≤ mag binary64 l
    first_some h = le_trans (le_of_eq (sym k)) (over_first w (square-over s.first h))

    pub second-some : 2 ^ c ≤ mag binary64 y → 2 ^ c ≤ mag binary64 l
    second-some h = le_trans (le_of_eq (sym k)) (over-second w (square-over s.second h))

-- ---- a part against the length
module _ {x y l : Float} (s : Squared x y) (e : plain_length x y ≡ answers l) where
  pub first_part : 2 ^ 563 ≤ mag binary64 x → mag binary64 x ≤ mag binary64 l
  unfolding plain_length
  first_part h =
      let a = root-answers (x *₆₄ x) s.first-square (square-nonneg s.first) in
      le_trans (square-least s.first s.first-square h a.1) (root-size-mono s.first-square s.both a.1 e (first-least s e))

  pub second-part : 2 ^ 563 ≤ mag binary64 y → mag binary64 y ≤ mag binary64 l
  unfolding plain_length
  second-part h =
      let a = root-answers (y *₆₄ y) s.second-square (square-nonneg s.second) in
      le_trans (square-least s.second s.second-square h a.1) (root-size-mono s.second-square s.both a.1 e (second-least s e))
