-- -0.0 read as +0.0: the value that is read is never -0.0, stands where the value stood in the order, and is the value itself where that was not -0.0.
-- And what the code tests for -0.0. Assumes nothing.
use mathlib.Core.Path.{◌≡◌, refl, sym, ap, ◌∙◌, subst}
use Prim.Native.Nat.{ℕ, zero, suc}
use native.Mathlib.Omega.{arith}
use mathlib.Core.Bool.{Bool, true, false, not, false≢true}
use lib.IntN.{ℤ, pos}
use lib.Dec.{T, T_not, not_T, eqb}
use lib.Ieee.{Float, nan, inf, fin, Format, binary64, eq, fits, is_nan, to_bits, size, of_bits, of_fields, odd}
use Rattle.floats.specs.Pick.{pick, pick_true, pick-false}
use Rattle.floats.specs.Numbers.{zero64, minus_zero, clean_of}
use Rattle.floats.specs.Kinds.{Number, Plain}
use Rattle.floats.proofs.Keys.{key}
use Rattle.floats.proofs.Order.{number-of, of_eq, eq-unique}
use Rattle.floats.proofs.Exact.{zero_is, plain-zero}

pub zero64-is : zero64 ≡ fin false 0 (pos 0)
unfolding of_bits of_fields odd
zero64-is = refl

pub plain-zero64 : Plain binary64 zero64
plain-zero64 = rw zero64-is (plain-zero binary64)

-- either zero equals zero
pub minus-zero-eq : (f : Format) (x : Float) → T (fits f x) → T (minus_zero x) → T (eq x (fin false 0 (pos 0)))
unfolding eq minus_zero
minus-zero-eq f nan h t = absurd t
minus-zero-eq f (inf s) h t = absurd t
minus-zero-eq f (fin s zero e) h t = subst (λ (z : Float). T (eq z (fin false 0 (pos 0)))) (sym (zero_is f s e h)) (at s)
  where
    at : (s : Bool) → T (eq (fin s 0 (pos 0)) (fin false 0 (pos 0)))
    at true = tt
    at false = tt
minus-zero-eq f (fin s (suc m) e) h t = absurd t

-- what is plain and equals zero is +0.0
pub plain-eq-zero : {f : Format} {x : Float} → Plain f x → T (eq x (fin false 0 (pos 0))) → x ≡ fin false 0 (pos 0)
plain-eq-zero {f} p h = eq-unique p (plain-zero f) h

clean_is : (x : Float) → clean_of x ≡ pick (eq x (fin false 0 (pos 0))) (fin false 0 (pos 0)) x
unfolding clean_of
clean_is x = rw zero64-is refl

-- any property of +0.0 and of the value
pub clean-keeps : (P : Float → Type 0) {x : Float} → P (fin false 0 (pos 0)) → P x → P (clean_of x)
unfolding pick
clean-keeps P {x} p q = rw (clean_is x) (go (eq x (fin false 0 (pos 0))))
  where
    go : (t : Bool) → P (pick t (fin false 0 (pos 0)) x)
    go true = p
    go false = q

pub clean-plain : {x : Float} → Number binary64 x → Plain binary64 (clean_of x)
unfolding pick
clean-plain {x} p = rw (clean_is x) (go (eq x (fin false 0 (pos 0))) (λ n. not_T (minus_zero x) (λ m. T_not (eq x (fin false 0 (pos 0))) n (minus-zero-eq binary64 x p.held m))))
  where
    go : (t : Bool) → (T (not t) → T (not (minus_zero x))) → Plain binary64 (pick t (fin false 0 (pos 0)) x)
    go true h = plain-zero binary64
    go false h = record { held = p.held; number = p.number; unsigned = h tt }

pub clean-key : {x : Float} → Number binary64 x → key binary64 (clean_of x) ≡ key binary64 x
unfolding pick
clean-key {x} p = rw (clean_is x) (go (eq x (fin false 0 (pos 0))) (λ h. sym (of_eq p (number-of (plain-zero binary64)) h)))
  where
    go : (t : Bool) → (T t → key binary64 (fin false 0 (pos 0)) ≡ key binary64 x) → key binary64 (pick t (fin false 0 (pos 0)) x) ≡ key binary64 x
    go true h = h tt
    go false h = refl

pub clean-same : {x : Float} → Plain binary64 x → clean_of x ≡ x
unfolding pick
clean-same {x} p = clean_is x ∙ go (eq x (fin false 0 (pos 0))) (λ h. sym (plain-eq-zero p h))
  where
    go : (t : Bool) → (T t → fin false 0 (pos 0) ≡ x) → pick t (fin false 0 (pos 0)) x ≡ x
    go true h = h tt
    go false h = refl

-- ---- the code's test: of what equals zero, the bits

-- what equals zero is a number
pub zero_number : (x : Float) → eq x zero64 ≡ true → T (not (is_nan x))
unfolding eq is_nan
zero_number nan h = absurd (false≢true h)
zero_number (inf s) h = tt
zero_number (fin s m e) h = tt

zero-sign : (s : Bool) → not (eqb (to_bits binary64 (fin s 0 (pos 0))) 0) ≡ s
unfolding to_bits size
zero-sign true = refl
zero-sign false = refl

-- its bits are not 0 exactly if it is -0.0
pub zero_bits : (x : Float) → T (fits binary64 x) → eq x zero64 ≡ true → not (eqb (to_bits binary64 x) 0) ≡ minus_zero x
unfolding minus_zero of_bits of_fields odd
zero_bits nan h t = absurd (false≢true (unfold eq in t))
zero_bits (inf s) h t = absurd (false≢true (unfold eq in t))
zero_bits (fin s zero e) h t = ap (λ (y : Float). not (eqb (to_bits binary64 y) 0)) (zero_is binary64 s e h) ∙ zero-sign s
zero_bits (fin s (suc m) e) h t =
    let q = plain-eq-zero {f = binary64} (record { held = h; number = unfold is_nan in tt; unsigned = tt }) (subst T (sym t) tt) in
    let z : ◌≡◌ {A = ℕ} (suc m) 0 = cc in
    let no : ⊥ = omega arith in
    absurd no

-- what does not equal zero is not -0.0
pub no_zero : (x : Float) → T (fits binary64 x) → eq x zero64 ≡ false → false ≡ minus_zero x
unfolding of_bits of_fields odd
no_zero x h t = go (minus_zero x) (λ m. minus-zero-eq binary64 x h m)
  where
    go : (b : Bool) → (T b → T (eq x (fin false 0 (pos 0)))) → false ≡ b
    go true f = absurd (subst T t (f tt))
    go false f = refl
