-- What `root`'s tests tell of x, and what `root_of` is there. Assumes nothing.
use Rattle.std.proofs.Common.{◌≡◌, ℕ, zero, suc, ◌+◌, ◌-◌, ◌*◌, ◌/◌, ◌%◌, ◌^◌, ◌<◌, ◌≤◌, Bool, true, false, cond, not, ◌&&◌, ◌||◌, T, eqb, ltb, leb, ◌⊎◌, ℤ, pos, negsuc, sym, refl, ap, ◌∙◌, subst, ap₂, inl, inr, zero-lt-suc, eq-zero-or-pos, mul-pos, lt_of_not-le, zero-mul, mul-div_cancel, arith, le→leb, eqb→eq, ltb→lt, lt→ltb, nltb→le}
use mathlib.Core.Bool.{beq}
use lib.Ieee.{Float, nan, inf, fin, binary64, up, down, odd, level, lt, eq, fits, is_nan, of_fields, of_bits, to_bits}
use lib.Ieee.Digits.{Equals, odd_val}
use lib.Ieee.Bits.{of_bits-to_bits, is_true, nan_bits_is, nan_bits_above}
use lib.Ieee.Fits.{down_pos, up_pos}
use Rattle.refusals.specs.Paper.{Paper, answers, refuses, only}
use Rattle.numbers.specs.Root.{root_within, root_of}
use Rattle.numbers.specs.RootBits.{sig_of, exp_of}
use Rattle.numbers.proofs.Pack.{read, of_bits_is}

pub not-both : false ≡ true → ⊥
not-both e = subst T (sym e) tt

zero_is : of_bits binary64 0 ≡ fin false 0 (pos 0)
unfolding of_bits
zero_is = refl

-- ---- x is above 0

pub above-number : (x : Float) → lt (of_bits binary64 0) x ≡ true → T (not (is_nan x))
unfolding lt of_bits is_nan
above-number nan h = absurd (not-both h)
above-number (inf s) h = tt
above-number (fin s m e) h = tt

no_less : lt (of_bits binary64 0) (of_bits binary64 0) ≡ false
unfolding lt of_bits
no_less = refl

pub above-bits : (x : Float) → T (fits binary64 x) → lt (of_bits binary64 0) x ≡ true → 0 < to_bits binary64 x
above-bits x f h = elim (eq-zero-or-pos (to_bits binary64 x)) [
  | inl z ↦ absurd (not-both (sym no_less ∙ ap (λ (y : Float). lt (of_bits binary64 0) y) (ap (of_bits binary64) (sym z) ∙ of_bits-to_bits binary64 x f) ∙ h))
  | inr p ↦ p
]

-- the number of units in x
units_of : (m : ℕ) (e : ℤ) (a : ℕ) → Equals (fin false m e) a (2 ^ 1074) → m * up e * 2 ^ 1074 / down e ≡ a
units_of m e a h = ap (λ (x : ℕ). x / down e) h ∙ mul-div_cancel a (down_pos e)

no_more : (d u : ℕ) → 0 * 1 * d < 0 * u * 1 → ⊥
no_more d u h = omega arith

root-above : (x : Float) (a : ℕ) → lt (of_bits binary64 0) x ≡ true → Equals x a (2 ^ 1074) → root_of x ≡ answers (root_within a)
unfolding lt of_bits root_of
root-above nan a h q = absurd (not-both h)
root-above (inf s) a h q = absurd q
root-above (fin false zero e) a h q = absurd (no_more (down e) (up e) (ltb→lt (0 * 1 * down e) (0 * up e * 1) (subst T (sym h) tt)))
root-above (fin true zero e) a h q = absurd (not-both h)
root-above (fin true (suc m) e) a h q = absurd (not-both h)
root-above (fin false (suc m) e) a h q = ap (λ (y : ℕ). answers (root_within y)) (units_of (suc m) e a q)

pub above-value : (x : Float) → T (fits binary64 x) → to_bits binary64 x < 2047 * 2 ^ 52 → Equals x (sig_of (to_bits binary64 x) * 2 ^ exp_of (to_bits binary64 x)) (2 ^ 1074)
above-value x f l =
    let b = to_bits binary64 x in
    subst (λ (y : Float). Equals y (sig_of b * 2 ^ exp_of b) (2 ^ 1074)) (sym (read b l) ∙ of_bits-to_bits binary64 x f) (odd_val 53 false (sig_of b) (exp_of b) 1074)

pub above_root : (x : Float) → T (fits binary64 x) → lt (of_bits binary64 0) x ≡ true → to_bits binary64 x < 2047 * 2 ^ 52
    → root_of x ≡ answers (root_within (sig_of (to_bits binary64 x) * 2 ^ exp_of (to_bits binary64 x)))
above_root x f h l = root-above x (sig_of (to_bits binary64 x) * 2 ^ exp_of (to_bits binary64 x)) h (above-value x f l)

-- ---- x is above 0, and its pattern is not below the infinity's

odd-minus : (d q k l : ℕ) → lt (of_bits binary64 0) (odd d true q k l) ≡ false
unfolding lt of_bits odd
odd-minus d zero k l = refl
odd-minus d (suc q) k l = refl

cond-minus : (a b : Bool) (y : Float) → lt (of_bits binary64 0) y ≡ false → lt (of_bits binary64 0) (cond a (cond b (inf true) nan) y) ≡ false
unfolding lt of_bits
cond-minus true true y h = refl
cond-minus true false y h = refl
cond-minus false b y h = h

fields-minus : (x t : ℕ) → lt (of_bits binary64 0) (of_fields binary64 true x t) ≡ false
unfolding of_fields
fields-minus zero t = odd-minus 53 t 0 1074
fields-minus (suc x) t = cond-minus (eqb (suc x) 2047) (eqb t 0) (odd 53 true (2 ^ 52 + t) x 1074) (odd-minus 53 (2 ^ 52 + t) x 1074)

bits-minus : (b : ℕ) → 2 ^ 63 ≤ b → lt (of_bits binary64 0) (of_bits binary64 b) ≡ false
bits-minus b h = ap (lt (of_bits binary64 0)) (of_bits_is b ∙ ap (λ (s : Bool). of_fields binary64 s (b % 2 ^ 63 / 2 ^ 52) (b % 2 ^ 52)) (is_true (leb (2 ^ 63) b) (le→leb (2 ^ 63) b h))) ∙ fields-minus (b % 2 ^ 63 / 2 ^ 52) (b % 2 ^ 52)

at-infinity : root_of (of_bits binary64 (2047 * 2 ^ 52)) ≡ refuses (only 5)
unfolding root_of of_bits
at-infinity = refl

pub above-refused : (x : Float) → T (fits binary64 x) → lt (of_bits binary64 0) x ≡ true → 2047 * 2 ^ 52 ≤ to_bits binary64 x → root_of x ≡ refuses (only 5)
above-refused x f h l =
    let b = to_bits binary64 x in
    let back : of_bits binary64 b ≡ x = of_bits-to_bits binary64 x f in
    let number : T (not (ltb (2047 * 2 ^ 52) (b % 2 ^ 63))) =
    subst (λ (y : Bool). T (not y)) (ap is_nan (sym back) ∙ sym (nan_bits_is binary64 b) ∙ nan_bits_above binary64 b) (above-number x h) in
    let plus : b < 2 ^ 63 = lt_of_not-le (λ (g : 2 ^ 63 ≤ b). not-both (sym (bits-minus b g) ∙ ap (lt (of_bits binary64 0)) back ∙ h)) in
    let upper : b % 2 ^ 63 ≤ 2047 * 2 ^ 52 = nltb→le (2047 * 2 ^ 52) (b % 2 ^ 63) number in
    let e : b ≡ 2047 * 2 ^ 52 = omega arith in
    ap root_of (sym back ∙ ap (of_bits binary64) e) ∙ at-infinity

-- ---- x is not above 0

and_left : (a b : Bool) → (a && b) ≡ true → T a
and_left true b h = tt
and_left false b h = absurd (not-both h)

no-product : (m u d : ℕ) → 0 < suc m * u → suc m * u * 1 ≡ 0 * 1 * d → ⊥
no-product m u d p h = omega arith

pub zero-root : (x : Float) → eq x (of_bits binary64 0) ≡ true → answers (of_bits binary64 0) ≡ root_of x
unfolding eq of_bits root_of
zero-root nan h = absurd (not-both h)
zero-root (inf s) h = absurd (not-both h)
zero-root (fin s zero e) h = refl
zero-root (fin s (suc m) e) h =
    absurd (no-product m (up e) (down e) (mul-pos (zero-lt-suc m) (up_pos e))
    (eqb→eq (suc m * up e * 1) (0 * 1 * down e) (and_left (eqb (suc m * up e * 1) (0 * 1 * down e)) (beq s false || eqb (suc m * up e * 1) 0) h)))

-- both zeros equal +0
zeros : (s : Bool) (d u : ℕ) → level s (0 * u * 1) false (0 * 1 * d) ≡ true
zeros s d u = ap₂ (λ (a b : ℕ). level s a false b) none none' ∙ at_zero s
  where
    none : 0 * u * 1 ≡ 0
    none = omega arith

    none' : 0 * 1 * d ≡ 0
    none' = omega arith

    at_zero : (s : Bool) → level s 0 false 0 ≡ true
    at_zero true = refl
    at_zero false = refl

pub below-refused : (x : Float) → lt (of_bits binary64 0) x ≡ false → eq x (of_bits binary64 0) ≡ false → refuses (only 5) ≡ root_of x
unfolding lt eq of_bits root_of
below-refused nan h g = refl
below-refused (inf s) h g = refl
below-refused (fin s zero e) h g = absurd (not-both (sym g ∙ zeros s (down e) (up e)))
below-refused (fin true (suc m) e) h g = refl
below-refused (fin false (suc m) e) h g =
    absurd (not-both (sym h ∙ is_true (ltb (0 * 1 * down e) (suc m * up e * 1)) (lt→ltb (0 * 1 * down e) (suc m * up e * 1) (some (down e) (suc m * up e) (mul-pos (zero-lt-suc m) (up_pos e))))))
  where
    some : (d n : ℕ) → 0 < n → 0 * 1 * d < n * 1
    some d n h = omega arith
