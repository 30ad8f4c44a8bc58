-- The root of a rounded square is the size of what was squared: `root-of-square`, for any x of 2 ^ -511 or more whose square is finite. Assumes nothing.
use Rattle.std.proofs.Common.{◌≡◌, ℕ, zero, suc, ◌+◌, ◌-◌, ◌*◌, ◌/◌, ◌%◌, ◌^◌, ◌<◌, ◌≤◌, true, false, not, T, eqb, pos, sym, refl, ap, ◌∙◌, subst, ap₂, inl, inr, true≢false, zero-le, le_trans, le_of_eq, lt_of_lt_of_le, lt_of_le_of_lt, le_of_lt, mul-le-mul_right, mod-lt, mul_assoc, suc-mul, mul_comm, add-mul, mul-le-mul, le_antisymm, eq-or-lt_of_le, mul-le-mul_left, mul-lt-mul_of_pos_right, mul-pos, one-mul, lt_of_not-le, div-add-mod', mul-suc, mul_right_comm, not-le_of_lt, div-mul-le_self, le_of_mul-le-mul_right, arith, eqb→eq, leb→le, pow_pos, pow_mono, pow-add, shl_lt}
use Prim.Native.Nat.{compare, Ordering}
use native.Mathlib.Nat.{eq_of_mul-eq-mul_right}
use native.Mathlib.Decide.{dec_le}
use lib.Dec.{is_le, compare_is_eq, nleb→lt, eqb_refl}
use lib.Arith.{lt_of_le-ne}
use lib.Count.{count_leading_zeros}
use lib.Ieee.{Float, nan, inf, fin, Format, binary64, low, down, size, nearest, round, fits, mul}
use lib.Ieee.Digits.{size_reaches}
use lib.Ieee.Exact.{HasValue}
use lib.Ieee.Fits.{down_pos, round-fits}
use lib.Ieee.Nearest.{closest}
use lib.Ieee.Order.{drop}
use lib.Ieee.Positive.{first_pos}
use lib.Ieee.Scale.{finite, grid as grid-of, round_val, round_under, normal_of_fraction}
use Rattle.refusals.specs.Paper.{answers}
use Rattle.floats.specs.Numbers.{◌*₆₄◌, size_of}
use Rattle.floats.specs.Kinds.{Finite}
use Rattle.floats.proofs.Keys.{top, mag, key, mag-exact, below-pow}
use Rattle.floats.proofs.Order.{key-unique}
use Rattle.floats.proofs.Rounded.{rounded, number-round, rounded-mono}
use Rattle.floats.proofs.Signed.{product, number-finite, to-positive}
use Rattle.floats.proofs.Within.{finite-size, size-finite}
use Rattle.floats.proofs.Ratio.{plain-positive}
use Rattle.numbers.specs.Root.{root_of, Nearer}
use Rattle.numbers.proofs.Roots.{sq-le, sq-suc}
use Rattle.numbers.proofs.Pack.{sq-mul, sq-odd}
use Rattle.numbers.proofs.Shift.{full}
use Rattle.numbers.proofs.Nearest.{grid, both}
use Rattle.numbers.proofs.Units.{mul-size, product-least, square-nonneg, finite-sized, size-key}
use Rattle.numbers.proofs.Sizes.{root-answers, root-finite, root-plain, root-nearer, root-key, root-at-least, size-digits}

-- ---- the nearest whole number to n / u is at most a half from it
abbrev Cmp : Ordering → ℕ → ℕ → Type 0
Cmp Ordering.lt a b = a < b
Cmp Ordering.eq a b = a ≡ b
Cmp Ordering.gt a b = b < a

cmp : (a b : ℕ) → Cmp (compare a b) a b
cmp a b = go (compare a b) (leb→le a b) (nleb→lt a b) (eqb→eq a b) (λ (e : a ≡ b). subst (λ (x : ℕ). T (eqb a x)) e (eqb_refl a))
  where
    go : (o : Ordering) → (T (is_le o) → a ≤ b) → (T (not (is_le o)) → b < a) → (T (compare_is_eq o) → a ≡ b) → (a ≡ b → T (compare_is_eq o)) → Cmp o a b
    go Ordering.lt h k e n = lt_of_le-ne (h tt) n
    go Ordering.eq h k e n = e tt
    go Ordering.gt h k e n = k tt

half_of : (n u q r : ℕ) (o : Ordering) → q * u + r ≡ n → r < u → Cmp o (r * 2) u → (n * 2 ≤ nearest q o * u * 2 + u) × (nearest q o * u * 2 ≤ n * 2 + u)
half_of n u q r Ordering.lt e l c = (omega arith, omega arith)
half_of n u q r Ordering.eq e l c =
    let a : (q + q % 2) * u ≡ q * u + q % 2 * u = add-mul q (q % 2) u in
    let b : q % 2 * u ≤ u = le_trans (mul-le-mul_right u (one q)) (le_of_eq (one-mul u)) in
    (omega arith, omega arith)
  where
    one : (q : ℕ) → q % 2 ≤ 1
    one q = omega arith
half_of n u q r Ordering.gt e l c = let a : suc q * u ≡ q * u + u = suc-mul q u in (omega arith, omega arith)

half : (n u : ℕ) → 0 < u → (n * 2 ≤ closest n u * u * 2 + u) × (closest n u * u * 2 ≤ n * 2 + u)
half n u U = half_of n u (n / u) (n % u) (compare (n % u * 2) u) (div-add-mod' n u) (mod-lt n U) (cmp (n % u * 2) u)

-- ---- what is rounded to a finite value, in units
value-mag : (f : Format) (x : Float) (a : ℕ) → T (fits f x) → HasValue x false a (2 ^ low f) → mag f x ≡ a
value-mag f nan a t v = absurd v
value-mag f (inf s) a t v = absurd v
value-mag f (fin true m e) a t v = absurd (true≢false v.0)
value-mag f (fin false m e) a t v = eq_of_mul-eq-mul_right (down e) (down_pos e) (mag f (fin false m e)) a (mag-exact f false m e t ∙ v.1)

pub rounded-grid : (f : Format) (a c : ℕ) → rounded f a c < top f → rounded f a c ≡ grid-of f a c
unfolding rounded
rounded-grid f a c h = value-mag f (round f false a c) (grid-of f a c) (round-fits f false a c) (round_val f a c (round_under f a c (finite-size (number-round f false a c) h).finite))

-- The error of a rounded fraction in the normal range is at most one part in 2 ^ 53.
module _ (a c : ℕ) (C : 0 < c) (h : rounded binary64 a c < top binary64) (r : 2 ^ 52 * c ≤ a * 2 ^ 1074) where
  abbrev n : ℕ
  n = a * 2 ^ 1074

  abbrev k : ℕ
  k = drop 53 n c

  abbrev u : ℕ
  u = c * 2 ^ k

  digits : 53 ≤ size (n / c)
  digits = normal_of_fraction binary64 a c C r

  unit-small : u * 2 ^ 52 ≤ n
  unit-small =
      let w : 2 ^ (52 + k) ≤ n / c = size_reaches (n / c) (52 + k) (in_use (size (n / c)) digits) in
      le_trans (le_of_eq (mul_assoc c (2 ^ k) (2 ^ 52) ∙ ap (λ (x : ℕ). c * x) (mul_comm (2 ^ k) (2 ^ 52) ∙ sym (pow-add 2 52 k)) ∙ mul_comm c (2 ^ (52 + k)))) (le_trans (mul-le-mul_right c w) (div-mul-le_self n c))
    where
      in_use : (z : ℕ) → 53 ≤ z → 52 + (z - 53) < z
      in_use z h = omega arith

  whole : rounded binary64 a c * c ≡ closest n u * u
  whole = ap (λ (x : ℕ). x * c) (rounded-grid binary64 a c h) ∙ mul_assoc (closest n u) (2 ^ k) c ∙ ap (λ (x : ℕ). closest n u * x) (mul_comm (2 ^ k) c)

  widen : (x y z w p : ℕ) → x * 2 ≤ y * 2 + z → z * p ≤ w → x * (2 * p) ≤ y * (2 * p) + w
  widen x y z w p h g =
      le_trans (le_of_eq (sym (mul_assoc x 2 p)))
      (le_trans (mul-le-mul_right p h)
      (le_trans (le_of_eq (add-mul (y * 2) z p ∙ ap (λ (t : ℕ). t + z * p) (mul_assoc y 2 p))) (add-le (y * (2 * p)) (z * p) w g)))
    where
      add-le : (a b c : ℕ) → b ≤ c → a + b ≤ a + c
      add-le a b c h = omega arith

  pub error-low : n * 2 ^ 53 ≤ rounded binary64 a c * c * 2 ^ 53 + n
  error-low = subst (λ (x : ℕ). n * 2 ^ 53 ≤ x * 2 ^ 53 + n) (sym whole) (widen n (closest n u * u) u n (2 ^ 52) (half n u (mul-pos C (pow_pos k))).0 unit-small)

  pub error-high : rounded binary64 a c * c * 2 ^ 53 ≤ n * 2 ^ 53 + n
  error-high = subst (λ (x : ℕ). x * 2 ^ 53 ≤ n * 2 ^ 53 + n) (sym whole) (widen (closest n u * u) n u n (2 ^ 52) (half n u (mul-pos C (pow_pos k))).1 unit-small)

-- ---- over whole numbers: N is X * X with an error of one part in E at most
-- the half way between two neighbours, squared, is farther off than that
below_half : (q E : ℕ) → suc (suc q) ≤ E → (q * 2 + 1) * (q * 2 + 1) * E + suc q * suc q * 4 ≤ suc q * suc q * 4 * E
below_half q E h =
    let s = q * q in
    let a : (q * 2 + 1) * (q * 2 + 1) ≡ s * 4 + q * 4 + 1 = sq-odd q ∙ (let g : (s + q) * 4 + 1 ≡ s * 4 + q * 4 + 1 = omega arith in g) in
    let b : suc q * suc q * 4 ≡ s * 4 + q * 4 + 1 + (q * 4 + 3) = ap (λ (x : ℕ). x * 4) (sq-suc q) ∙ (let g : (s + q * 2 + 1) * 4 ≡ s * 4 + q * 4 + 1 + (q * 4 + 3) = omega arith in g) in
    let c : (s * 4 + q * 4 + 1 + (q * 4 + 3)) * E ≡ (s * 4 + q * 4 + 1) * E + (q * 4 + 3) * E = add-mul (s * 4 + q * 4 + 1) (q * 4 + 3) E in
    let d : (q * 4 + 3) * suc (suc q) ≤ (q * 4 + 3) * E = mul-le-mul_left (q * 4 + 3) h in
    let e : (q * 4 + 3) * suc (suc q) ≡ s * 4 + q * 11 + 6 = wide q in
    let i : (q * 2 + 1) * (q * 2 + 1) * E ≡ (s * 4 + q * 4 + 1) * E = ap (λ (x : ℕ). x * E) a in
    let j : suc q * suc q * 4 * E ≡ (s * 4 + q * 4 + 1) * E + (q * 4 + 3) * E = ap (λ (x : ℕ). x * E) b ∙ c in
    omega arith
  where
    wide : (q : ℕ) → (q * 4 + 3) * suc (suc q) ≡ q * q * 4 + q * 11 + 6
    wide q = let a = mul-suc (q * 4 + 3) (suc q) in let b = mul-suc (q * 4 + 3) q in let c : (q * 4 + 3) * q ≡ q * q * 4 + q * 3 = add-mul (q * 4) 3 q ∙ ap₂ (λ (x y : ℕ). x + y) (mul_right_comm q 4 q) (mul_comm 3 q) in omega arith

above_half : (m E : ℕ) → m ≤ E → m * m * 4 * E + m * m * 4 ≤ (m * 2 + 1) * (m * 2 + 1) * E
above_half m E h =
    let s = m * m in
    let a : (m * 2 + 1) * (m * 2 + 1) ≡ s * 4 + (m * 4 + 1) = sq-odd m ∙ (let g : (s + m) * 4 + 1 ≡ s * 4 + (m * 4 + 1) = omega arith in g) in
    let b : (m * 2 + 1) * (m * 2 + 1) * E ≡ s * 4 * E + (m * 4 + 1) * E = ap (λ (x : ℕ). x * E) a ∙ add-mul (s * 4) (m * 4 + 1) E in
    let c : (m * 4 + 1) * m ≤ (m * 4 + 1) * E = mul-le-mul_left (m * 4 + 1) h in
    let d : (m * 4 + 1) * m ≡ s * 4 + m = wide m in
    omega arith
  where
    wide : (m : ℕ) → (m * 4 + 1) * m ≡ m * m * 4 + m
    wide m = add-mul (m * 4) 1 m ∙ ap₂ (λ (x y : ℕ). x + y) (mul_right_comm m 4 m) (one-mul m)

-- A is a square of 4 halves, C that of the half way, in units of Q
module _ (A C E N B Q : ℕ) (E+ : 0 < E) where
  low-clash : C * E + A * 4 ≤ A * 4 * E → A * Q * E ≤ N * E + A * Q → N * 4 < B → B ≤ C * Q → ⊥
  low-clash h i j k =
      let a : (C * E + A * 4) * Q ≡ C * Q * E + A * Q * 4 = add-mul (C * E) (A * 4) Q ∙ ap₂ (λ (x y : ℕ). x + y) (mul_right_comm C E Q) (mul_right_comm A 4 Q) in
      let b : A * 4 * E * Q ≡ A * Q * E * 4 = mul_right_comm (A * 4) E Q ∙ ap (λ (x : ℕ). x * E) (mul_right_comm A 4 Q) ∙ mul_right_comm (A * Q) 4 E in
      let c : (C * E + A * 4) * Q ≤ A * 4 * E * Q = mul-le-mul_right Q h in
      let d : N * 4 * E < C * Q * E = mul-lt-mul_of_pos_right (lt_of_lt_of_le j k) E+ in
      let e : N * 4 * E ≡ N * E * 4 = mul_right_comm N 4 E in
      omega arith

  high-clash : A * 4 * E + A * 4 ≤ C * E → N * E ≤ A * Q * E + A * Q → B < N * 4 → C * Q ≤ B → ⊥
  high-clash h i j k =
      let a : (A * 4 * E + A * 4) * Q ≡ A * Q * E * 4 + A * Q * 4 = add-mul (A * 4 * E) (A * 4) Q ∙ ap₂ (λ (x y : ℕ). x + y) (mul_right_comm (A * 4) E Q ∙ ap (λ (x : ℕ). x * E) (mul_right_comm A 4 Q) ∙ mul_right_comm (A * Q) 4 E) (mul_right_comm A 4 Q) in
      let b : C * E * Q ≡ C * Q * E = mul_right_comm C E Q in
      let c : (A * 4 * E + A * 4) * Q ≤ C * E * Q = mul-le-mul_right Q h in
      let d : C * Q * E < N * 4 * E = mul-lt-mul_of_pos_right (lt_of_le_of_lt k j) E+ in
      let e : N * 4 * E ≡ N * E * 4 = mul_right_comm N 4 E in
      omega arith

-- the common factor T taken off
module _ (A S W E : ℕ) (W+ : 0 < W) where
  off-low : A * W * E ≤ S * (W * W) * E + A * W → A * E ≤ S * W * E + A
  off-low h =
      le_of_mul-le-mul_right {m = A * E} {n = S * W * E + A} {k = W}
      (le_trans (le_of_eq (mul_right_comm A E W)) (le_trans h (le_of_eq (sym (add-mul (S * W * E) A W ∙ ap (λ (x : ℕ). x + A * W) (mul_right_comm (S * W) E W ∙ ap (λ (x : ℕ). x * E) (mul_assoc S W W))))))) W+

  off-high : S * (W * W) * E ≤ A * W * E + A * W → S * W * E ≤ A * E + A
  off-high h =
      le_of_mul-le-mul_right {m = S * W * E} {n = A * E + A} {k = W}
      (le_trans (le_of_eq (mul_right_comm (S * W) E W ∙ ap (λ (x : ℕ). x * E) (mul_assoc S W W))) (le_trans h (le_of_eq (sym (add-mul (A * E) A W ∙ ap (λ (x : ℕ). x + A * W) (mul_right_comm A E W)))))) W+

-- a value of 2 ^ -511 or more has all of 53 digits
pub normal-digits : {x : Float} → Finite binary64 x → 2 ^ 563 ≤ mag binary64 x → (m : ℕ) × (h : ℕ) × (2 ^ 52 ≤ m) × (m < 2 ^ 53) × (mag binary64 x ≡ m * 2 ^ h)
normal-digits {x} p b =
    let d = size-digits p in
    let v = d.0 in
    let j = d.1 in
    let pos : 0 < v = first_pos v (2 ^ j) (lt_of_lt_of_le (pow_pos 563) (le_trans b (le_of_eq d.3))) in
    let z = count_leading_zeros 64 v - 11 in
    let w = (full v pos d.2).1 in
    let far : 563 ≤ 53 + j = below-pow 563 (53 + j) (le_trans b (le_trans (le_of_eq d.3) (le_of_lt (shl_lt 53 j d.2)))) in
    let g : j ≡ z + (j - z) = split j z far w.0 in
    (v * 2 ^ z, j - z, w.1, w.2, d.3 ∙ ap (λ (n : ℕ). v * n) (ap (λ (n : ℕ). 2 ^ n) g ∙ pow-add 2 z (j - z)) ∙ sym (mul_assoc v (2 ^ z) (2 ^ (j - z))))
  where
    split : (j z : ℕ) → 563 ≤ 53 + j → z ≤ 52 → j ≡ z + (j - z)
    split j z h k = omega arith

-- what has a finite square is below 2 ^ 512
overflows : (fin false 1 (pos 512)) *₆₄ (fin false 1 (pos 512)) ≡ inf false
unfolding mul
overflows = refl

wide-finite : Finite binary64 (fin false 1 (pos 512))
unfolding fits
wide-finite = record { held = tt; finite = tt }

wide-size : mag binary64 (fin false 1 (pos 512)) ≡ 2 ^ 1586
unfolding mag
wide-size = refl

inf-size : mag binary64 (inf false) ≡ top binary64
unfolding mag
inf-size = refl

square-below : {x : Float} → Finite binary64 x → Finite binary64 (x *₆₄ x) → mag binary64 x < 2 ^ 1586
square-below {x} p s = lt_of_not-le (λ (g : 2 ^ 1586 ≤ mag binary64 x).
    let w = fin false 1 (pos 512) in
    let X = mag binary64 x in
    let a : mag binary64 (w *₆₄ w) ≡ top binary64 = ap (λ (z : Float). mag binary64 z) overflows ∙ inf-size in
    let b : mag binary64 w ≤ X = le_trans (le_of_eq wide-size) g in
    let T2 = 2 ^ 1074 * 2 ^ 1074 in
    let c : product binary64 (mag binary64 w) (mag binary64 w) ≤ product binary64 X X = rounded-mono binary64 (mag binary64 w * mag binary64 w) T2 (X * X) T2 (mul-pos (pow_pos 1074) (pow_pos 1074)) (mul-pos (pow_pos 1074) (pow_pos 1074)) (mul-le-mul_right T2 (mul-le-mul b b)) in
    not-le_of_lt (size-finite s) (le_trans (le_of_eq (sym a ∙ mul-size wide-finite wide-finite)) (le_trans c (le_of_eq (sym (mul-size p p))))))

-- ---- the root of a square
module _ {x r : Float} (p : Finite binary64 x) (s : Finite binary64 (x *₆₄ x)) (b : 2 ^ 563 ≤ mag binary64 x) (e : root_of (x *₆₄ x) ≡ answers r) where
  abbrev X : ℕ
  X = mag binary64 x

  abbrev R : ℕ
  R = mag binary64 r

  abbrev N : ℕ
  N = mag binary64 (x *₆₄ x) * 2 ^ 1074

  wide_enough : 2 ^ 52 * (2 ^ 1074 * 2 ^ 1074) ≤ X * X * 2 ^ 1074
  wide_enough = le_trans (le_of_eq (sym (mul_assoc (2 ^ 52) (2 ^ 1074) (2 ^ 1074)))) (mul-le-mul_right (2 ^ 1074) (le_trans (le_of_eq (sym (pow-add 2 52 1074) ∙ pow-add 2 563 563)) (mul-le-mul b b)))

  stays : product binary64 X X < top binary64
  stays = lt_of_le_of_lt (le_of_eq (sym (mul-size p p))) (size-finite s)

  low-error : X * X * 2 ^ 53 ≤ N * 2 ^ 53 + X * X
  low-error =
      subst (λ (n : ℕ). X * X * 2 ^ 53 ≤ n * 2 ^ 1074 * 2 ^ 53 + X * X) (sym (mul-size p p))
      (off-low (X * X) (product binary64 X X) (2 ^ 1074) (2 ^ 53) (pow_pos 1074) (error-low (X * X) (2 ^ 1074 * 2 ^ 1074) (mul-pos (pow_pos 1074) (pow_pos 1074)) stays wide_enough))

  high-error : N * 2 ^ 53 ≤ X * X * 2 ^ 53 + X * X
  high-error =
      subst (λ (n : ℕ). n * 2 ^ 1074 * 2 ^ 53 ≤ X * X * 2 ^ 53 + X * X) (sym (mul-size p p))
      (off-high (X * X) (product binary64 X X) (2 ^ 1074) (2 ^ 53) (pow_pos 1074) (error-high (X * X) (2 ^ 1074 * 2 ^ 1074) (mul-pos (pow_pos 1074) (pow_pos 1074)) stays wide_enough))

  near : Nearer N R X
  near = root-nearer s e p

  -- at a power of two there is no error
  at-power : (c : ℕ) → X ≡ 2 ^ c → X ≤ R
  at-power c g =
      let low : 563 ≤ c = below-pow 563 c (le_trans b (le_of_eq g)) in
      let d : c + c ≡ c + c - 1074 + 1074 = split c low in
      let f : 2 ^ (c + c - 1074) * 2 ^ 1074 ≡ X * X = sym (pow-add 2 (c + c - 1074) 1074) ∙ ap (λ (n : ℕ). 2 ^ n) (sym d) ∙ pow-add 2 c c ∙ ap₂ (λ (m n : ℕ). m * n) (sym g) (sym g) in
      root-at-least N R X near.above
      (le_trans (le_of_eq (sym f)) (mul-le-mul_right (2 ^ 1074) (le_trans (product-least (c + c - 1074) X X (fits_in c (strict c g)) (le_of_eq f)) (le_of_eq (sym (mul-size p p))))))
    where
      split : (c : ℕ) → 563 ≤ c → c + c ≡ c + c - 1074 + 1074
      split c h = omega arith

      strict : (c : ℕ) → X ≡ 2 ^ c → c < 1586
      strict c g = lt_of_not-le (λ (k : 1586 ≤ c). not-le_of_lt (square-below p s) (le_trans (pow_mono k) (le_of_eq (sym g))))

      fits_in : (c : ℕ) → c < 1586 → c + c - 1074 ≤ 2097
      fits_in c k = omega arith

  -- and at any other value it does not reach the half way down
  by_digits : (m h : ℕ) → 2 ^ 52 < m → m < 2 ^ 53 → X ≡ m * 2 ^ h → X ≤ R
  by_digits zero h lo hi g = absurd (not-le_of_lt lo zero-le)
  by_digits (suc q) h lo hi g = go (dec_le X R)
    where
      P : ℕ
      P = 2 ^ h

      square : X * X ≡ suc q * suc q * (P * P)
      square = ap₂ (λ (m n : ℕ). m * n) g g ∙ sq-mul (suc q) P

      next : (a q : ℕ) → a < suc q → a ≤ q
      next a q h = omega arith

      sum : (a b c d : ℕ) → a ≤ b → c ≡ d → a + c ≤ b + d
      sum a b c d h e = omega arith

      clash : R < X → R ≤ q * P → ⊥
      clash k a =
          low-clash (suc q * suc q) ((q * 2 + 1) * (q * 2 + 1)) (2 ^ 53) N ((R + X) * (R + X)) (P * P) (pow_pos 53) (below_half q (2 ^ 53) hi)
          (subst (λ (n : ℕ). n * 2 ^ 53 ≤ N * 2 ^ 53 + n) square low-error)
          (near.above k)
          (le_trans (sq-le (R + X) ((q * 2 + 1) * P) (le_trans (sum R (q * P) X (suc q * P) a g) (le_of_eq (both q P)))) (le_of_eq (sq-mul (q * 2 + 1) P)))

      go : Dec (X ≤ R) → X ≤ R
      go (yes k) = k
      go (no k) =
          let d = size-digits (root-finite s e) in
          elim (grid q h d.0 d.1 (next (2 ^ 52) q lo) d.2) [
            | inl a ↦ absurd (clash (lt_of_not-le k) (le_trans (le_of_eq d.3) a))
            | inr a ↦ le_trans (le_of_eq g) (le_trans a (le_of_eq (sym d.3)))
          ]

  pub square-least : X ≤ R
  square-least =
      let d = normal-digits p b in
      elim (eq-or-lt_of_le d.2) [
        | inl k ↦ at-power (52 + d.1) (d.4 ∙ ap (λ (n : ℕ). n * 2 ^ d.1) (sym k) ∙ sym (pow-add 2 52 d.1))
        | inr k ↦ by_digits d.0 d.1 k d.3 d.4
      ]

  -- nor the half way up
  up-digits : (m h : ℕ) → 2 ^ 52 ≤ m → m < 2 ^ 53 → X ≡ m * 2 ^ h → R ≤ X
  up-digits m h lo hi g = go (dec_le R X)
    where
      P : ℕ
      P = 2 ^ h

      square : X * X ≡ m * m * (P * P)
      square = ap₂ (λ (m n : ℕ). m * n) g g ∙ sq-mul m P

      sum : (a b c d : ℕ) → a ≤ b → c ≡ d → c + a ≤ b + d
      sum a b c d h e = omega arith

      clash : X < R → suc m * P ≤ R → ⊥
      clash k a =
          high-clash (m * m) ((m * 2 + 1) * (m * 2 + 1)) (2 ^ 53) N ((R + X) * (R + X)) (P * P) (pow_pos 53) (above_half m (2 ^ 53) (le_of_lt hi))
          (subst (λ (n : ℕ). N * 2 ^ 53 ≤ n * 2 ^ 53 + n) square high-error)
          (near.under k)
          (le_trans (le_of_eq (sym (sq-mul (m * 2 + 1) P))) (sq-le ((m * 2 + 1) * P) (R + X) (le_trans (le_of_eq (sym (both m P))) (sum (suc m * P) R (m * P) X a (sym g)))))

      go : Dec (R ≤ X) → R ≤ X
      go (yes k) = k
      go (no k) =
          let d = size-digits (root-finite s e) in
          elim (grid m h d.0 d.1 lo d.2) [
            | inl a ↦ le_trans (le_of_eq d.3) (le_trans a (le_of_eq (sym g)))
            | inr a ↦ absurd (clash (lt_of_not-le k) (le_trans a (le_of_eq (sym d.3))))
          ]

  pub square-most : R ≤ X
  square-most = let d = normal-digits p b in up-digits d.0 d.1 d.2 d.3 d.4

-- the root of the rounded square of x is |x|, for an x of 2 ^ -511 or more whose square is finite
pub root-of-square : {x : Float} → Finite binary64 x → Finite binary64 (x *₆₄ x) → 2 ^ 563 ≤ mag binary64 x → root_of (x *₆₄ x) ≡ answers (size_of x)
root-of-square {x} p s b =
    let a = root-answers (x *₆₄ x) s (square-nonneg p) in
    let k : mag binary64 a.0 ≡ mag binary64 x = le_antisymm (square-most p s b a.1) (square-least p s b a.1) in
    let q = finite-sized p in
    let o : top binary64 < key binary64 (size_of x) = lt_of_lt_of_le (over (top binary64) (mag binary64 x) (lt_of_lt_of_le (pow_pos 563) b)) (le_of_eq (sym (size-key p))) in
    a.1 ∙ ap answers (key-unique (root-plain s a.1) (plain-positive binary64 (size_of x) q (to-positive (number-finite q) o)) (root-key s a.1 ∙ ap (λ (n : ℕ). top binary64 + n) k ∙ sym (size-key p)))
  where
    over : (o a : ℕ) → 0 < a → o < o + a
    over o a h = omega arith
