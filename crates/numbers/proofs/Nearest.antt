-- What `root` answers is a value of binary64, and of all its values the one nearest to the root: `root-fits` and `root-nearest`. Assumes nothing.
use Rattle.std.proofs.Common.{◌≡◌, ℕ, zero, suc, ◌+◌, ◌-◌, ◌*◌, ◌/◌, ◌%◌, ◌^◌, ◌<◌, ◌≤◌, Bool, true, false, cond, not, ◌&&◌, T, eqb, ltb, leb, ◌⊎◌, ℤ, pos, negsuc, sym, refl, ap, ◌∙◌, subst, ap₂, inl, inr, zero-le, le_trans, le_of_eq, le_refl, lt_of_lt_of_le, le_of_suc-le-suc, lt_of_le_of_lt, le_of_lt, lt_irrefl, mul-le-mul_right, zero-lt-suc, mul_assoc, mul_comm, add-mul, lt_of_mul-lt-mul_right, mul-le-mul_left, mul-lt-mul_of_pos_right, mul-pos, one-mul, lt_of_not-le, zero-mul, mul-one, mul-add, mul_right_comm, not-le_of_lt, div-one, mul-div_cancel, mul_left_comm, arith, lit<, lit≤, ltb→lt, lt→ltb, leb→le, nltb→le, pow_pos, pow_mono, pow-add, shl_lt}
use native.Mathlib.Decide.{dec_le}
use lib.Pow.{pow-lt}
use lib.Count.{count_leading_zeros}
use lib.Ieee.{Float, nan, inf, fin, binary64, up, down, odd, lt, fits, of_bits, to_bits}
use lib.Ieee.Digits.{Equals, odd_val}
use lib.Ieee.Fits.{and_l, and_r, down_pos, up_pos}
use lib.Ieee.Bits.{is_true, of_bits-fits}
use Rattle.refusals.specs.Paper.{Paper, answers, refuses, only}
use Rattle.numbers.specs.Root.{whole_root, root_within, root_of, units_of, Nearer}
use Rattle.numbers.specs.RootBits.{nearest_root, sig_of, exp_of, Pattern}
use Rattle.numbers.proofs.Roots.{whole-root, sq-le}
use Rattle.numbers.proofs.Shift.{full, half, shifted, n-low, n-high, units, pattern}
use Rattle.numbers.proofs.Answer.{above-bits, above-refused, above-value}
use Rattle.numbers.proofs.Pack.{sq-mul, sq-odd, root-low, root_in-is}

le-or-lt : (a b : ℕ) → (a ≤ b) ⊎ (b < a)
le-or-lt a b = go (dec_le a b)
  where
    go : Dec (a ≤ b) → (a ≤ b) ⊎ (b < a)
    go (yes h) = inl h
    go (no f) = inr (lt_of_not-le f)

-- ---- between q * 2 ^ h and the next multiple of 2 ^ h there is no number of 53 digits, if q has 53

pub grid : (q h v j : ℕ) → 2 ^ 52 ≤ q → v < 2 ^ 53 → (v * 2 ^ j ≤ q * 2 ^ h) ⊎ (suc q * 2 ^ h ≤ v * 2 ^ j)
grid q h v j lo hi = elim (le-or-lt h j) [
  | inl g ↦
      let w = v * 2 ^ (j - h) in
      let e : v * 2 ^ j ≡ w * 2 ^ h = ap (λ (x : ℕ). v * x) (ap (λ (x : ℕ). 2 ^ x) (split g) ∙ pow-add 2 (j - h) h) ∙ sym (mul_assoc v (2 ^ (j - h)) (2 ^ h)) in
      elim (le-or-lt w q) [
        | inl a ↦ inl (le_trans (le_of_eq e) (mul-le-mul_right (2 ^ h) a))
        | inr a ↦ inr (le_trans (mul-le-mul_right (2 ^ h) a) (le_of_eq (sym e)))
      ]
  | inr g ↦
      inl (le_trans (le_of_lt (shl_lt 53 j hi))
      (le_trans (pow_mono (next g)) (le_trans (le_of_eq (pow-add 2 52 h)) (mul-le-mul_right (2 ^ h) lo))))
]
  where
    split : h ≤ j → j ≡ j - h + h
    split g = omega arith

    next : j < h → 53 + j ≤ 52 + h
    next g = omega arith

sq-lt : (a b : ℕ) → a < b → a * a < b * b
sq-lt a b h = lt_of_le_of_lt (mul-le-mul_left a (le_of_lt h)) (mul-lt-mul_of_pos_right h (lt_of_le_of_lt zero-le h))

sq-twice : (R : ℕ) → (R + R) * (R + R) ≡ R * R * 4
sq-twice R = simp (mul-add, add-mul) (omega arith)

pub both : (q P : ℕ) → q * P + suc q * P ≡ (q * 2 + 1) * P
both q P = sym (add-mul q (suc q) P) ∙ ap (λ (x : ℕ). x * P) same
  where
    same : q + suc q ≡ q * 2 + 1
    same = omega arith

-- R, or what is on the far side of √N from Y, is at least as near as half way
far : (N R Y : ℕ) → N < R * R → R < Y → N * 4 < (R + Y) * (R + Y)
far N R Y a b = lt_of_lt_of_le (four N (R * R) a) (le_trans (le_of_eq (sym (sq-twice R))) (sq-le (R + R) (R + Y) (wider R Y b)))
  where
    four : (a b : ℕ) → a < b → a * 4 < b * 4
    four a b h = omega arith

    wider : (R Y : ℕ) → R < Y → R + R ≤ R + Y
    wider R Y h = omega arith

short : (N R Y : ℕ) → R * R ≤ N → Y < R → (R + Y) * (R + Y) < N * 4
short N R Y a b = lt_of_lt_of_le (sq-lt (R + Y) (R + R) (wider R Y b)) (le_trans (le_of_eq (sq-twice R)) (four (R * R) N a))
  where
    four : (a b : ℕ) → a ≤ b → a * 4 ≤ b * 4
    four a b h = omega arith

    wider : (R Y : ℕ) → Y < R → R + Y < R + R
    wider R Y h = omega arith

-- the root is q * P or more and below suc q * P, and Y is not between the two
module _ (n P q Y : ℕ) (pos : 0 < P) (lo : q * q ≤ n) (hi : n < suc q * suc q) (out : (Y ≤ q * P) ⊎ (suc q * P ≤ Y)) where
  middle : (q * 2 + 1) * P * ((q * 2 + 1) * P) ≡ ((q * q + q) * 4 + 1) * (P * P)
  middle = sq-mul (q * 2 + 1) P ∙ ap (λ (x : ℕ). x * (P * P)) (sq-odd q)

  nearer-up : q * q + q < n → Nearer (n * (P * P)) (suc q * P) Y
  nearer-up g = record {
    above = λ h. far (n * (P * P)) (suc q * P) Y (lt_of_lt_of_le (mul-lt-mul_of_pos_right hi (mul-pos pos pos)) (le_of_eq (sym (sq-mul (suc q) P)))) h;
    under = λ h. elim out [
      | inl a ↦
          lt_of_le_of_lt (sq-le (suc q * P + Y) ((q * 2 + 1) * P) (reach (suc q * P) Y (q * P) ((q * 2 + 1) * P) (both q P) a))
          (lt_of_le_of_lt (le_of_eq middle) (lt_of_lt_of_le (mul-lt-mul_of_pos_right (more (q * q + q) n g) (mul-pos pos pos)) (le_of_eq (mul_right_comm n 4 (P * P)))))
      | inr a ↦ absurd (not-le_of_lt h a)
    ];
  }
    where
      reach : (R Y Q M : ℕ) → Q + R ≡ M → Y ≤ Q → R + Y ≤ M
      reach R Y Q M e h = omega arith

      more : (a b : ℕ) → a < b → a * 4 + 1 < b * 4
      more a b h = omega arith

  nearer-stay : n ≤ q * q + q → Nearer (n * (P * P)) (q * P) Y
  nearer-stay g = record {
    above = λ h. elim out [
      | inl a ↦ absurd (not-le_of_lt h a)
      | inr a ↦
          lt_of_lt_of_le (lt_of_le_of_lt (le_of_eq (mul_right_comm n (P * P) 4)) (mul-lt-mul_of_pos_right (more n (q * q + q) g) (mul-pos pos pos)))
          (le_trans (le_of_eq (sym middle)) (sq-le ((q * 2 + 1) * P) (q * P + Y) (reach (suc q * P) Y (q * P) ((q * 2 + 1) * P) (both q P) a)))
    ];
    under = λ h. short (n * (P * P)) (q * P) Y (le_trans (le_of_eq (sq-mul q P)) (mul-le-mul_right (P * P) lo)) h;
  }
    where
      reach : (R Y Q M : ℕ) → Q + R ≡ M → R ≤ Y → M ≤ Q + Y
      reach R Y Q M e h = omega arith

      more : (a b : ℕ) → a ≤ b → a * 4 < b * 4 + 1
      more a b h = omega arith

nearer : (n h v j : ℕ) → 2 ^ 104 ≤ n → n < 2 ^ 106 → v < 2 ^ 53 → Nearer (n * (2 ^ h * 2 ^ h)) (nearest_root n * 2 ^ h) (v * 2 ^ j)
unfolding nearest_root
nearer n h v j lo hi small = go (ltb (q * q + q) n) (ltb→lt (q * q + q) n) (nltb→le (q * q + q) n)
  where
    q : ℕ
    q = whole_root n

    out : (v * 2 ^ j ≤ q * 2 ^ h) ⊎ (suc q * 2 ^ h ≤ v * 2 ^ j)
    out = grid q h v j (root-low n lo hi) small

    go : (b : Bool) → (T b → q * q + q < n) → (T (not b) → n ≤ q * q + q) → Nearer (n * (2 ^ h * 2 ^ h)) (cond b (suc q) q * 2 ^ h) (v * 2 ^ j)
    go true f g = nearer-up n (2 ^ h) q (v * 2 ^ j) (pow_pos h) (whole-root n).0 (whole-root n).1 out (f tt)
    go false f g = nearer-stay n (2 ^ h) q (v * 2 ^ j) (pow_pos h) (whole-root n).0 (whole-root n).1 out (g tt)

-- ---- the units of a value

value-units : (x : Float) (a : ℕ) → Equals x a (2 ^ 1074) → units_of x ≡ a
value-units nan a h = absurd h
value-units (inf s) a h = absurd h
value-units (fin s m e) a h = ap (λ (x : ℕ). x / down e) h ∙ mul-div_cancel a (down_pos e)

-- a value of binary64 is a whole number of units, of 53 digits and then zeros
digits_of : (m : ℕ) (e : ℤ) → m < 2 ^ 53 → down e ≤ 2 ^ 1074 → (j : ℕ) × (units_of (fin false m e) ≡ m * 2 ^ j)
digits_of m (pos a) h l = (a + 1074, div-one (m * 2 ^ a * 2 ^ 1074) ∙ mul_assoc m (2 ^ a) (2 ^ 1074) ∙ ap (λ (x : ℕ). m * x) (sym (pow-add 2 a 1074)))
digits_of m (negsuc a) h l = (
  1074 - suc a,
  ap (λ (x : ℕ). x * 2 ^ 1074 / 2 ^ suc a) (mul-one m)
      ∙ ap (λ (x : ℕ). m * x / 2 ^ suc a) (ap (λ (x : ℕ). 2 ^ x) (split a below) ∙ pow-add 2 (1074 - suc a) (suc a))
      ∙ ap (λ (x : ℕ). x / 2 ^ suc a) (sym (mul_assoc m (2 ^ (1074 - suc a)) (2 ^ suc a)))
      ∙ mul-div_cancel (m * 2 ^ (1074 - suc a)) (pow_pos (suc a)),
)
  where
    below : suc a ≤ 1074
    below = le_of_suc-le-suc (lt_of_not-le (λ (g : 1075 ≤ suc a). not-le_of_lt (pow-lt g) l))

    split : (a : ℕ) → suc a ≤ 1074 → 1074 ≡ 1074 - suc a + suc a
    split a h = omega arith

pub value-digits : (m : ℕ) (e : ℤ) → T (fits binary64 (fin false m e)) → (v : ℕ) × (j : ℕ) × (v < 2 ^ 53) × (units_of (fin false m e) ≡ v * 2 ^ j)
unfolding fits
value-digits zero e f = (0, 0, lit< tt, value-units (fin false 0 e) 0 (nothing (up e) (down e)))
  where
    nothing : (u d : ℕ) → 0 * u * 2 ^ 1074 ≡ 0 * d
    nothing u d = rw (zero-mul u, zero-mul d) refl
value-digits (suc m) e f =
    let A = eqb (suc m % 2) 1 in
    let B = ltb (suc m) (2 ^ 53) in
    let C = leb (down e) (2 ^ 1074) in
    let D = ltb (suc m * up e) (2 ^ 1024 * down e) in
    let small : suc m < 2 ^ 53 = ltb→lt (suc m) (2 ^ 53) (and_r A B (and_l (A && B) C (and_l (A && B && C) D f))) in
    let t = digits_of (suc m) e small (leb→le (down e) (2 ^ 1074) (and_r (A && B) C (and_l (A && B && C) D f))) in
    (suc m, t.0, small, t.1)

-- ---- a pattern's root

sig-in : (b : ℕ) → 0 < b → b < 2047 * 2 ^ 52 → (0 < sig_of b) × (sig_of b < 2 ^ 53)
sig-in b p l = (omega arith, omega arith)

module _ (b : ℕ) (p : 0 < b) (l : b < 2047 * 2 ^ 52) where
  abbrev z : ℕ
  z = count_leading_zeros 64 (sig_of b) - 11

  abbrev N : ℕ
  N = shifted b (exp_of b) z * 2 ^ 52

  shift_in : (z ≤ 52) × (2 ^ 52 ≤ sig_of b * 2 ^ z) × (sig_of b * 2 ^ z < 2 ^ 53)
  shift_in = (full (sig_of b) (sig-in b p l).0 (sig-in b p l).1).1

  N-low : 2 ^ 104 ≤ N
  N-low = n-low b (exp_of b) z p l refl shift_in.0 shift_in.1 shift_in.2

  N-high : N < 2 ^ 106
  N-high = lt_of_le_of_lt (n-high b (exp_of b) z p l refl shift_in.0 shift_in.1 shift_in.2) (lit< tt)

  N-is : sig_of b * 2 ^ exp_of b * 2 ^ 1074 ≡ N * (2 ^ half (exp_of b) z * 2 ^ half (exp_of b) z)
  N-is = units b (exp_of b) z p l refl shift_in.0 shift_in.1 shift_in.2

  root_is : root_within (sig_of b * 2 ^ exp_of b) ≡ odd 53 false (nearest_root N) (half (exp_of b) z) 1074
  root_is = root_in-is N N-low N-high (sig_of b * 2 ^ exp_of b) (half (exp_of b) z) N-is

  bits-nearest : (v j : ℕ) → v < 2 ^ 53 → Nearer (sig_of b * 2 ^ exp_of b * 2 ^ 1074) (units_of (root_within (sig_of b * 2 ^ exp_of b))) (v * 2 ^ j)
  bits-nearest v j small =
      let h = half (exp_of b) z in
      subst (λ (x : ℕ). Nearer x (units_of (root_within (sig_of b * 2 ^ exp_of b))) (v * 2 ^ j)) (sym N-is)
      (subst (λ (x : ℕ). Nearer (N * (2 ^ h * 2 ^ h)) x (v * 2 ^ j)) (sym (ap units_of root_is ∙ value-units (odd 53 false (nearest_root N) h 1074) (nearest_root N * 2 ^ h) (odd_val 53 false (nearest_root N) h 1074)))
      (nearer N h v j N-low N-high small))

  bits-fits : T (fits binary64 (root_within (sig_of b * 2 ^ exp_of b)))
  bits-fits =
      let w = pattern b (exp_of b) z p l refl shift_in.0 shift_in.1 shift_in.2 (nearest_root (shifted b (exp_of b) z * 2 ^ 52)) refl in
      subst (λ (x : Float). T (fits binary64 x)) w.value (of_bits-fits binary64 (half (exp_of b) z * 2 ^ 52 + nearest_root (shifted b (exp_of b) z * 2 ^ 52)))

-- ---- the laws, for x = (m + 1) * 2 ^ e, any finite value of binary64 above 0

no-refusal : (v : Float) → answers v ≡ refuses (only 5) → ⊥
no-refusal v h = let z : ◌≡◌ {A = ℕ} 0 1 = cc in omega arith

module _ (m : ℕ) (e : ℤ) (f : T (fits binary64 (fin false (suc m) e))) where
  abbrev x : Float
  x = fin false (suc m) e

  over : lt (of_bits binary64 0) x ≡ true
  unfolding lt of_bits
  over = is_true (ltb (0 * 1 * down e) (suc m * up e * 1)) (lt→ltb (0 * 1 * down e) (suc m * up e * 1) (some (down e) (suc m * up e) (mul-pos (zero-lt-suc m) (up_pos e))))
    where
      some : (d n : ℕ) → 0 < n → 0 * 1 * d < n * 1
      some d n h = omega arith

  pub root-of : root_of x ≡ answers (root_within (units_of x))
  unfolding root_of
  root-of = refl

  finite : to_bits binary64 x < 2047 * 2 ^ 52
  finite = lt_of_not-le (λ (g : 2047 * 2 ^ 52 ≤ to_bits binary64 x). no-refusal (root_within (units_of x)) (sym root-of ∙ above-refused x f over g))

  units-is : units_of x ≡ sig_of (to_bits binary64 x) * 2 ^ exp_of (to_bits binary64 x)
  units-is = value-units x (sig_of (to_bits binary64 x) * 2 ^ exp_of (to_bits binary64 x)) (above-value x f finite)

  -- the answer is a value of binary64
  pub root-fits : T (fits binary64 (root_within (units_of x)))
  root-fits = subst (λ (X : ℕ). T (fits binary64 (root_within X))) (sym units-is) (bits-fits (to_bits binary64 x) (above-bits x f over) finite)

  -- and of any two the nearer to the root
  pub root-nearest : (n : ℕ) (d : ℤ) → T (fits binary64 (fin false n d)) → Nearer (units_of x * 2 ^ 1074) (units_of (root_within (units_of x))) (units_of (fin false n d))
  root-nearest n d g =
      let t = value-digits n d g in
      subst (λ (X : ℕ). Nearer (X * 2 ^ 1074) (units_of (root_within X)) (units_of (fin false n d))) (sym units-is)
      (subst (λ (Y : ℕ). Nearer (sig_of (to_bits binary64 x) * 2 ^ exp_of (to_bits binary64 x) * 2 ^ 1074) (units_of (root_within (sig_of (to_bits binary64 x) * 2 ^ exp_of (to_bits binary64 x)))) Y) (sym t.3)
      (bits-nearest (to_bits binary64 x) (above-bits x f over) finite t.0 t.1 t.2))
