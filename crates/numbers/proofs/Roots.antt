-- `whole_root n` is the greatest whole number whose square is at most n, and the only one. Assumes nothing.
use Rattle.std.proofs.Common.{◌≡◌, ℕ, zero, suc, ◌+◌, ◌-◌, ◌*◌, ◌/◌, ◌%◌, ◌^◌, ◌<◌, ◌≤◌, Bool, true, false, cond, not, T, ltb, leb, pos, negsuc, sym, refl, ap, ◌∙◌, subst, zero-le, le_trans, le_of_eq, le_refl, lt_of_lt_of_le, le_of_suc-le-suc, lt_of_le_of_lt, le_of_lt, add_assoc, mul-le-mul_right, zero-lt-suc, mul_assoc, suc-mul, mul_comm, div-lt_iff_lt-mul, add-mul, mul-le-mul, add_comm, le_antisymm, mul-le-mul_left, pow-suc, lt_of_not-le, mul-suc, mul-add, not-le_of_lt, mul_left_comm, arith, lit≤, ltb→lt, lt→ltb, leb→le}
use native.Mathlib.Nat.{add_left_comm}
use lib.Dec.{nleb→lt, not_T}
use lib.Ieee.{Float, nan, inf, fin, odd, is_nan, of_bits, binary64, size}
use lib.Ieee.Digits.{size-lt}
use Rattle.refusals.specs.Paper.{Paper, answers, refuses, only}
use Rattle.numbers.specs.Root.{step_up, root_below, whole_root, root_within, root_of, units_of}
use Rattle.numbers.specs.RootBits.{nearest_root}

refused : (r : Float) → answers r ≡ refuses (only 5) → ⊥
refused r h = let z : ◌≡◌ {A = ℕ} 0 1 = cc in omega arith

answer : (r v : Float) → answers r ≡ answers v → r ≡ v
answer r v h = cc

cond_yes : {X : Type 0} (b : Bool) (x y : X) → T b → cond b x y ≡ x
cond_yes true x y t = refl
cond_yes false x y t = absurd t

cond_no : {X : Type 0} (b : Bool) (x y : X) → T (not b) → cond b x y ≡ y
cond_no true x y t = absurd t
cond_no false x y t = refl

-- ---- squares

sq-double : (a : ℕ) → a * 2 * (a * 2) ≡ a * a * 4
sq-double a = simp (mul_comm, mul_assoc, mul_left_comm) (omega arith)

pub sq-le : (a b : ℕ) → a ≤ b → a * a ≤ b * b
sq-le a b h = le_trans (mul-le-mul_left a h) (mul-le-mul_right b h)

-- a number whose square is below that of b + 1 is at most b
pub sq-back : (a b : ℕ) → a * a < suc b * suc b → a ≤ b
sq-back a b h = le_of_suc-le-suc (lt_of_not-le (λ (g : suc b ≤ a). not-le_of_lt h (sq-le (suc b) a g)))

pub sq-suc : (a : ℕ) → suc a * suc a ≡ a * a + a * 2 + 1
sq-suc a = rw suc-mul (rw mul-suc (omega arith))

-- ---- the whole part of a root

abbrev pub Holds : ℕ → ℕ → Type 0
Holds n r = (r * r ≤ n) × (n < suc r * suc r)

raised-holds : (n r : ℕ) → r * r ≤ n → n < suc (suc r) * suc (suc r) → Holds n (step_up n r)
raised-holds n r lo hi = go (leb (suc r * suc r) n) (leb→le (suc r * suc r) n) (nleb→lt (suc r * suc r) n)
  where
    go : (b : Bool) → (T b → suc r * suc r ≤ n) → (T (not b) → n < suc r * suc r) → Holds n (cond b (suc r) r)
    go true y z = (y tt, hi)
    go false y z = (lo, z tt)

low_step : (n s t : ℕ) → t ≡ s * 4 → s ≤ n / 4 → t ≤ n
low_step n s t e h = omega arith

high-step : (n s t : ℕ) → t ≡ s * 4 → n / 4 < s → n < t
high-step n s t e h = omega arith

quarter : (n p : ℕ) → n < p * 4 → n / 4 < p
quarter n p h = omega arith

pub root-below : (k n : ℕ) → n < 4 ^ k → Holds n (root_below k n)
unfolding root_below
root-below zero n h = (zero-le, h)
root-below (suc k) n h =
    let r = root_below k (n / 4) in
    let ih = root-below k (n / 4) (quarter n (4 ^ k) (rw pow-suc at h)) in
    raised-holds n (r * 2) (low_step n (r * r) (r * 2 * (r * 2)) (sq-double r) ih.0)
    (high-step n (suc r * suc r) (suc (suc (r * 2)) * suc (suc (r * 2))) (ap (λ (x : ℕ). x * x) (next r) ∙ sq-double (suc r)) ih.1)
  where
    next : (r : ℕ) → suc (suc (r * 2)) ≡ suc r * 2
    next r = omega arith

two-four : (k : ℕ) → 2 ^ k ≤ 4 ^ k
two-four zero = le_refl 1
two-four (suc k) = rw pow-suc (rw (pow-suc 4) (mul-le-mul (two-four k) (lit≤ tt)))

-- the square of `whole_root n` is at most n, and that of the next number is above n
pub whole-root : (n : ℕ) → Holds n (whole_root n)
unfolding whole_root
whole-root n = root-below (size n) n (lt_of_lt_of_le (size-lt n) (two-four (size n)))

-- it is the only such number
pub whole-root-only : (n r : ℕ) → Holds n r → whole_root n ≡ r
whole-root-only n r h =
    let w = whole-root n in
    le_antisymm (sq-back (whole_root n) r (lt_of_le_of_lt w.0 h.1)) (sq-back r (whole_root n) (lt_of_le_of_lt h.0 w.1))

-- ---- the whole number nearest to a root

module _ (n r rem : ℕ) (e : r * r + rem ≡ n) (h : rem ≤ r * 2) where
  root-of-rest : whole_root n ≡ r
  root-of-rest = whole-root-only n r (omega arith, rw sq-suc (omega arith))

  pub nearest-up : r < rem → suc r ≡ nearest_root n
  unfolding nearest_root
  nearest-up g = rw root-of-rest (sym (cond_yes (ltb (r * r + r) n) (suc r) r (lt→ltb (r * r + r) n (omega arith))))

  pub nearest-stay : rem ≤ r → r ≡ nearest_root n
  unfolding nearest_root
  nearest-stay g = rw root-of-rest (sym (cond_no (ltb (r * r + r) n) (suc r) r (not_T (ltb (r * r + r) n) (λ t. not-le_of_lt (ltb→lt (r * r + r) n t) (omega arith)))))

-- ---- what a caller that goes on with the answer asks: it is no NaN

odd_number : (d : ℕ) (s : Bool) (q k l : ℕ) → T (not (is_nan (odd d s q k l)))
unfolding odd is_nan
odd_number d s zero k l = tt
odd_number d s (suc q) k l = tt

root_in-odd : (X : ℕ) → (q : ℕ) × (k : ℕ) × (root_within X ≡ odd 53 false q k 1074)
unfolding root_within
root_in-odd X = (_, _, refl)

root_in-number : (X : ℕ) → T (not (is_nan (root_within X)))
root_in-number X =
    let t = root_in-odd X in
    rw t.2 (odd_number 53 false t.0 t.1 1074)

pub root-number : (x r : Float) → answers r ≡ root_of x → T (not (is_nan r))
unfolding root_of is_nan
root-number nan r h = absurd (refused r h)
root-number (inf s) r h = absurd (refused r h)
root-number (fin s zero e) r h = subst (λ (y : Float). T (not (is_nan y))) (sym (answer r (fin false 0 (pos 0)) h)) tt
root-number (fin true (suc m) e) r h = absurd (refused r h)
root-number (fin false (suc m) e) r h = subst (λ (y : Float). T (not (is_nan y))) (sym (answer r (root_within (units_of (fin false (suc m) e))) h)) (root_in-number (units_of (fin false (suc m) e)))
