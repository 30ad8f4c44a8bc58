-- The sign's bit of a pattern: of a value that is not below zero it tells -0.0. Assumes nothing.
use mathlib.Core.Path.{◌≡◌, refl, sym, subst}
use Prim.Native.Nat.{ℕ, zero, suc, ◌+◌}
use native.Mathlib.Omega.{arith}
use mathlib.Core.Bool.{Bool, true, false, not, false≢true}
use lib.IntN.{ℤ}
use lib.Dec.{T, leb}
use lib.Ieee.{Float, nan, inf, fin, binary64, lt, eq, le, fits, is_nan, to_bits, of_bits, of_fields, odd}
use lib.Ieee.Bits.{to_bits-lt}
use borrow.Author.Tests.{le-leb, lt-leb}
use Rattle.floats.specs.Numbers.{zero64, minus_zero}
use Rattle.floats.specs.Kinds.{Plain}
use Rattle.floats.proofs.Order.{number-of, eq-sym}
use Rattle.floats.proofs.Exact.{plain-zero}
use Rattle.floats.proofs.Cleared.{plain-eq-zero}

-- the weight of the sign
abbrev pub signed : ℕ
signed = 0x8000000000000000

added : (t a b : ℕ) → t + a + b ≡ t + (0 + a + b)
added t a b = omega arith

-- a sign adds its weight
sign-more : (m : ℕ) (e : ℤ) → to_bits binary64 (fin true m e) ≡ signed + to_bits binary64 (fin false m e)
unfolding to_bits
sign-more m e = added _ _ _

-- what fits is no matter of the sign
other_sign : (m : ℕ) (e : ℤ) → T (fits binary64 (fin false m e)) → T (fits binary64 (fin true m e))
unfolding fits
other_sign zero e h = h
other_sign (suc m) e h = h

-- the bit is the sign
sign_bit : (s : Bool) (m : ℕ) (e : ℤ) → T (fits binary64 (fin s m e)) → leb signed (to_bits binary64 (fin s m e)) ≡ s
sign_bit true m e h = le-leb signed (to_bits binary64 (fin true m e)) (rw (sign-more m e) (omega arith))
sign_bit false m e h =
    let l = rw (sign-more m e) at (to_bits-lt binary64 (fin true m e) (other_sign m e h)) in
    lt-leb signed (to_bits binary64 (fin false m e)) (omega (arith, l))

-- a number below zero is not at or above it
not-below : (m : ℕ) (e : ℤ) → T (fits binary64 (fin true (suc m) e)) → le zero64 (fin true (suc m) e) ≡ true → ⊥
unfolding le lt of_bits of_fields odd minus_zero is_nan
not-below m e h t =
    let p : Plain binary64 (fin true (suc m) e) = record { held = h; number = tt; unsigned = tt } in
    let q = plain-eq-zero p (eq-sym (number-of (plain-zero binary64)) (number-of p) (subst T (sym t) tt)) in
    let z : ◌≡◌ {A = ℕ} (suc m) 0 = cc in
    let no : ⊥ = omega arith in
    no

-- of a value that is not below zero the bit is set exactly if it is -0.0
pub clear-bit : (x : Float) → T (fits binary64 x) → le zero64 x ≡ true → leb signed (to_bits binary64 x) ≡ minus_zero x
unfolding minus_zero le lt eq of_bits of_fields odd to_bits
clear-bit nan h t = absurd (false≢true t)
clear-bit (inf true) h t = absurd (false≢true t)
clear-bit (inf false) h t = refl
clear-bit (fin false zero e) h t = sign_bit false zero e h
clear-bit (fin false (suc m) e) h t = sign_bit false (suc m) e h
clear-bit (fin true zero e) h t = sign_bit true zero e h
clear-bit (fin true (suc m) e) h t = absurd (not-below m e h t)

-- and it is a number
pub clear-number : (x : Float) → le zero64 x ≡ true → T (not (is_nan x))
unfolding le lt eq is_nan of_bits of_fields odd
clear-number nan t = absurd (false≢true t)
clear-number (inf s) t = tt
clear-number (fin s m e) t = tt
