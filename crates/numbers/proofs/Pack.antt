-- The root's pattern. Assumes nothing.
use Rattle.std.proofs.Common.{◌≡◌, ℕ, zero, suc, ◌+◌, ◌-◌, ◌*◌, ◌/◌, ◌%◌, ◌^◌, ◌<◌, ◌≤◌, Bool, true, false, cond, not, T, eqb, ltb, leb, sym, refl, ap, ◌∙◌, subst, ap₂, le_trans, le_of_eq, le_refl, lt_of_lt_of_le, le_of_suc-le-suc, lt_of_le_of_lt, le_of_lt, mul-le-mul_right, mod-eq_of_lt, mul_assoc, mul_comm, add-mul, le_antisymm, lt_of_mul-lt-mul_right, mul-le-mul_left, mul-lt-mul_of_pos_right, mul-pos, one-mul, lt_of_not-le, mul-one, mul-add, mul_right_comm, not-le_of_lt, le_of_mul-le-mul_right, mul_left_comm, add-one, arith, lit<, lit≤, eqb→eq, ltb→lt, lt→ltb, leb→le, pow_pos, pow_mono, pow-add, shl_lt}
use native.Mathlib.Nat.{div-eq_of_lt-le}
use lib.Dec.{not_T}
use lib.Ieee.{Float, nan, inf, fin, binary64, size, odd, is_nan, of_fields, of_bits, nan_bits}
use lib.Ieee.Digits.{size-lt, size-le}
use lib.Ieee.Bits.{is_false, cond_no, nan_bits_is, nan_bits_above}
use Rattle.numbers.specs.Root.{whole_root, root_within}
use Rattle.numbers.specs.RootBits.{nearest_root, sig_of, exp_of}
use Rattle.numbers.proofs.Roots.{Holds, whole-root, sq-le, sq-back, sq-suc}

-- ---- squares of products

pub sq-mul : (a p : ℕ) → a * p * (a * p) ≡ a * a * (p * p)
sq-mul a p = simp (mul_assoc, mul_left_comm) refl

-- twice a number and one, squared
pub sq-odd : (q : ℕ) → (q * 2 + 1) * (q * 2 + 1) ≡ (q * q + q) * 4 + 1
sq-odd q = simp (mul-add, add-mul, one-mul, mul-one) (omega (arith, double))
  where
    double : q * 2 * (q * 2) ≡ q * q * 4
    double = simp (mul_comm, mul_assoc, mul_left_comm) (omega arith)

same-lt : (a b c d : ℕ) → (a < b → c < d) → (c < d → a < b) → ltb a b ≡ ltb c d
same-lt a b c d f g = go (ltb a b) (ltb c d) (λ t. lt→ltb c d (f (ltb→lt a b t))) (λ t. lt→ltb a b (g (ltb→lt c d t)))
  where
    go : (x y : Bool) → (T x → T y) → (T y → T x) → x ≡ y
    go true true p r = refl
    go true false p r = absurd (p tt)
    go false true p r = absurd (r tt)
    go false false p r = refl

-- ---- N is n * (P * P): the root of N has that of n for its leading digits

module _ (n P : ℕ) (pos : 0 < P) where
  lead_low : whole_root n * P ≤ whole_root (n * (P * P))
  lead_low =
      let q = whole_root n in
      let t = whole_root (n * (P * P)) in
      sq-back (q * P) t (lt_of_le_of_lt (le_trans (le_of_eq (sq-mul q P)) (mul-le-mul_right (P * P) (whole-root n).0)) (whole-root (n * (P * P))).1)

  lead_high : whole_root (n * (P * P)) < suc (whole_root n) * P
  lead_high =
      let q = whole_root n in
      let t = whole_root (n * (P * P)) in
      lt_of_not-le (λ (g : suc q * P ≤ t).
      not-le_of_lt (whole-root n).1
      (le_of_mul-le-mul_right {m = suc q * suc q} {n = n} {k = P * P} (le_trans (le_of_eq (sym (sq-mul (suc q) P))) (le_trans (sq-le (suc q * P) t g) (whole-root (n * (P * P))).0)) (mul-pos pos pos)))

  half-way : ltb ((whole_root n * 2 + 1) * P * ((whole_root n * 2 + 1) * P)) (n * (P * P) * 4) ≡ ltb (whole_root n * whole_root n + whole_root n) n
  half-way =
      let q = whole_root n in
      let left : (q * 2 + 1) * P * ((q * 2 + 1) * P) ≡ ((q * q + q) * 4 + 1) * (P * P) = sq-mul (q * 2 + 1) P ∙ ap (λ (x : ℕ). x * (P * P)) (sq-odd q) in
      let right : n * (P * P) * 4 ≡ n * 4 * (P * P) = mul_right_comm n (P * P) 4 in
      rw (left, right) (same-lt (((q * q + q) * 4 + 1) * (P * P)) (n * 4 * (P * P)) (q * q + q) n
      (λ h. fewer (q * q + q) n (lt_of_mul-lt-mul_right (P * P) h))
      (λ h. mul-lt-mul_of_pos_right (more (q * q + q) n h) (mul-pos pos pos)))
    where
      fewer : (a b : ℕ) → a * 4 + 1 < b * 4 → a < b
      fewer a b h = omega arith

      more : (a b : ℕ) → a < b → a * 4 + 1 < b * 4
      more a b h = omega arith

-- ---- `root_within` at a number of units whose root has h digits more than 53

-- what `root_within` makes of N, of the number k of digits dropped, and of the digits q kept
abbrev made : ℕ → ℕ → ℕ → Float
made N k q = odd 53 false (cond (ltb ((q * 2 + 1) * 2 ^ k * ((q * 2 + 1) * 2 ^ k)) (N * 4)) (suc q) q) k 1074

root_in-made : (X : ℕ) → root_within X ≡ made (X * 2 ^ 1074) (size (whole_root (X * 2 ^ 1074)) - 53) (whole_root (X * 2 ^ 1074) / 2 ^ (size (whole_root (X * 2 ^ 1074)) - 53))
unfolding root_within
root_in-made X = refl

module _ (n : ℕ) (lo : 2 ^ 104 ≤ n) (hi : n < 2 ^ 106) where
  pub root-low : 2 ^ 52 ≤ whole_root n
  root-low = sq-back (2 ^ 52) (whole_root n) (lt_of_le_of_lt lo (whole-root n).1)

  pub root-high : whole_root n < 2 ^ 53
  root-high = lt_of_not-le (λ (g : 2 ^ 53 ≤ whole_root n). not-le_of_lt hi (le_trans (sq-le (2 ^ 53) (whole_root n) g) (whole-root n).0))

  size_is : (h t : ℕ) → whole_root n * 2 ^ h ≤ t → t < suc (whole_root n) * 2 ^ h → size t - 53 ≡ h
  size_is h t a b =
      let up : size t ≤ 53 + h = size-le t (53 + h) (lt_of_lt_of_le b (le_trans (mul-le-mul_right (2 ^ h) root-high) (le_of_eq (sym (pow-add 2 53 h))))) in
      let down : 52 + h < size t =
      lt_of_not-le (λ (g : size t ≤ 52 + h).
      not-le_of_lt (size-lt t) (le_trans (pow_mono g) (le_trans (le_of_eq (pow-add 2 52 h)) (le_trans (mul-le-mul_right (2 ^ h) root-low) a)))) in
      exactly (size t) h up down
    where
      exactly : (z h : ℕ) → z ≤ 53 + h → 52 + h < z → z - 53 ≡ h
      exactly z h up down = omega arith

  pub root_in-is : (X h : ℕ) → X * 2 ^ 1074 ≡ n * (2 ^ h * 2 ^ h) → root_within X ≡ odd 53 false (nearest_root n) h 1074
  unfolding nearest_root
  root_in-is X h e =
      let N = n * (2 ^ h * 2 ^ h) in
      let t = whole_root N in
      let low = lead_low n (2 ^ h) (pow_pos h) in
      let high = lead_high n (2 ^ h) (pow_pos h) in
      let k : size t - 53 ≡ h = size_is h t low high in
      let q : t / 2 ^ h ≡ whole_root n = div-eq_of_lt-le {k = whole_root n} (2 ^ h) {m = t} low (subst (λ (x : ℕ). t < x * 2 ^ h) (sym (add-one (whole_root n))) high) in
      root_in-made X
      ∙ ap (λ (y : ℕ). made y (size (whole_root y) - 53) (whole_root y / 2 ^ (size (whole_root y) - 53))) e
      ∙ ap (λ (y : ℕ). made N y (t / 2 ^ y)) k
      ∙ ap (λ (y : ℕ). made N h y) q
      ∙ ap (λ (y : Bool). odd 53 false (cond y (suc (whole_root n)) (whole_root n)) h 1074) (half-way n (2 ^ h) (pow_pos h))

-- ---- reading a pattern

pub of_bits_is : (b : ℕ) → of_bits binary64 b ≡ of_fields binary64 (leb (2 ^ 63) b) (b % 2 ^ 63 / 2 ^ 52) (b % 2 ^ 52)
unfolding of_bits
of_bits_is b = refl

fields-zero : (t : ℕ) → of_fields binary64 false 0 t ≡ odd 53 false t 0 1074
unfolding of_fields
fields-zero t = refl

fields-suc : (x t : ℕ) → suc x < 2047 → of_fields binary64 false (suc x) t ≡ odd 53 false (2 ^ 52 + t) x 1074
unfolding of_fields
fields-suc x t h = cond_no (eqb (suc x) 2047) (cond (eqb t 0) (inf false) nan) (odd 53 false (2 ^ 52 + t) x 1074) (not_T (eqb (suc x) 2047) (λ (u : T (eqb (suc x) 2047)). differ x h (eqb→eq (suc x) 2047 u)))
  where
    differ : (x : ℕ) → suc x < 2047 → suc x ≡ 2047 → ⊥
    differ x h e = omega arith

module _ (b : ℕ) (h : b < 2047 * 2 ^ 52) where
  plus : leb (2 ^ 63) b ≡ false
  plus = is_false (leb (2 ^ 63) b) (not_T (leb (2 ^ 63) b) (λ (u : T (leb (2 ^ 63) b)). not-le_of_lt h (le_trans (lit≤ tt) (leb→le (2 ^ 63) b u))))

  all : b % 2 ^ 63 ≡ b
  all = mod-eq_of_lt (lt_of_lt_of_le h (lit≤ tt))

  by_field : (x : ℕ) → b / 2 ^ 52 ≡ x → of_fields binary64 false x (b % 2 ^ 52) ≡ odd 53 false (sig_of b) (exp_of b) 1074
  by_field zero e = fields-zero (b % 2 ^ 52) ∙ ap₂ (λ (m k : ℕ). odd 53 false m k 1074) (omega arith) (omega arith)
  by_field (suc x) e = fields-suc x (b % 2 ^ 52) (omega arith) ∙ ap₂ (λ (m k : ℕ). odd 53 false m k 1074) (omega arith) (omega arith)

  pub read : of_bits binary64 b ≡ odd 53 false (sig_of b) (exp_of b) 1074
  read =
      of_bits_is b
      ∙ ap (λ (s : Bool). of_fields binary64 s (b % 2 ^ 63 / 2 ^ 52) (b % 2 ^ 52)) plus
      ∙ ap (λ (x : ℕ). of_fields binary64 false (x / 2 ^ 52) (b % 2 ^ 52)) all
      ∙ by_field (b / 2 ^ 52) refl

  pub no_nan : T (not (nan_bits binary64 b))
  no_nan = rw (nan_bits_above, all) (not_T (ltb (2047 * 2 ^ 52) b) (λ (u : T (ltb (2047 * 2 ^ 52) b)). not-le_of_lt (ltb→lt (2047 * 2 ^ 52) b u) (le_of_lt h)))
