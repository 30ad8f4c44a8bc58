-- The numbers of a job line are finite: whole micrometres, at most 1,000,000,000 of them, divided by 1000. Assumes nothing.
use Rattle.std.specs.Prelude.{None, Option, Some}
use mathlib.Core.Path.{◌≡◌, refl, sym, ◌∙◌, subst}
use mathlib.Core.Bool.{Bool, true, false}
use mathlib.Core.List.{List, [], ◌∷◌}
use Prim.Native.Nat.{ℕ, zero, suc, ◌*◌, ◌^◌, ◌≤◌}
use native.Mathlib.Nat.{mul-one, le_trans, le_of_eq, mul-le-mul_right}
use native.Mathlib.Omega.{arith}
use lib.Dec.{T, eqb, leb, lit≤}
use lib.ListN.{length, get_or}
use lib.IntN.{pos, negsuc, neg_ℤ}
use lib.Ieee
use lib.Ieee.{Float, nan, inf, fin, binary64, low, up, down, of_bits, of_int, div, round, fits}
use lib.Ieee.Back.{round_whole}
use lib.Ieee.Bits.{of_bits-fits}
use lib.Ieee.Exact.{HasValue}
use lib.Ieee.Fits.{of_int-fits}
use lib.Ieee.Scale.{finite}
use borrow.Author.Tests.{leb-true}
use Rattle.floats.specs.Pick.{pick}
use Rattle.floats.specs.Kinds.{Within}
use Rattle.floats.proofs.Keys.{mag, mag-exact}
use Rattle.floats.proofs.Within.{within-div}
use Rattle.text.proofs.Chosen.{yes, no}
use Rattle.text.specs.Whole.{all_digits, spelt, is_whole, whole_of}
use Rattle.job_words.specs.Number.{positive, negative, field_number}
use Rattle.job_words.specs.Kind.{mm_of, at}

-- both of two that may be picked
pub either : {A : Type 0} (P : A → Type 0) (t : Bool) (a b : A) → P a → P b → P (pick t a b)
either P true a b x y = simp yes x
either P false a b x y = simp no y

-- ---- a whole number

valued-within : (s : Bool) (n : ℕ) → n ≤ 2 ^ 30 → (x : Float) → T (fits binary64 x) → HasValue x s n 1 → Within binary64 30 x
valued-within s n h nan t v = absurd v
valued-within s n h (inf u) t v = absurd v
valued-within s n h (fin u m e) t v = record { held = t; finite = tt; small = le_trans (le_of_eq (sym (mul-one (m * up e)) ∙ v.1)) (mul-le-mul_right (down e) h) }

round-within : (s : Bool) (n : ℕ) → n ≤ 1000000000 → T (fits binary64 (round binary64 s n 1)) → Within binary64 30 (round binary64 s n 1)
round-within s n h t = valued-within s n (omega (arith, h)) (round binary64 s n 1) t (round_whole binary64 s n (omega (arith, h)))

pos-within : (n : ℕ) → n ≤ 1000000000 → Within binary64 30 (of_int binary64 (pos n))
unfolding of_int
pos-within n h = round-within false n h (of_int-fits binary64 (pos n))

neg-within : (n : ℕ) → n ≤ 1000000000 → Within binary64 30 (of_int binary64 (neg_ℤ (pos n)))
unfolding of_int
neg-within zero h = round-within false zero h (of_int-fits binary64 (pos zero))
neg-within (suc n) h = round-within true (suc n) h (of_int-fits binary64 (negsuc n))

-- ---- divided by 1000

abbrev thousand : Float
thousand = of_bits binary64 0x408F400000000000

thousand-is : thousand ≡ fin false 125 (pos 3)
unfolding Ieee.of_bits Ieee.of_fields Ieee.odd
thousand-is = refl

thousand-fits : T (fits binary64 (fin false 125 (pos 3)))
thousand-fits = subst (λ (y : Float). T (fits binary64 y)) thousand-is (of_bits-fits binary64 0x408F400000000000)

at_least : (a p : ℕ) → a * 1 ≡ 125 * 8 * p → p ≤ a * 1
at_least a p e = omega (arith, e)

divided : (x : Float) → Within binary64 30 x → T (finite (div binary64 x thousand))
divided x w =
    subst (λ (y : Float). T (finite (div binary64 x y))) (sym thousand-is)
    (within-div {f = binary64} {j = 30} {x = x} {y = fin false 125 (pos 3)} 0 w (record { held = thousand-fits; finite = tt }) (at_least (mag binary64 (fin false 125 (pos 3))) (2 ^ low binary64) (mag-exact binary64 false 125 (pos 3) thousand-fits)) (lit≤ tt)).finite

-- ---- a field

abbrev Small : Option ℕ → Type 0
Small (Some v) = v ≤ 1000000000
Small None = Unit {0}

small-whole : (s : List ℕ) → Small (whole_of s)
unfolding whole_of is_whole
small-whole s = by (leb 1 (length s)) (leb (length s) 10) (all_digits s) (leb (spelt 0 s) 1000000000) refl
  where
    by : (a b c d : Bool) → leb (spelt 0 s) 1000000000 ≡ d → Small (pick (pick a (pick b (pick c d false) false) false) (Some (spelt 0 s)) None)
    by false b c d e = simp (no) tt
    by true false c d e = simp (yes, no) tt
    by true true false d e = simp (yes, no) tt
    by true true true false e = simp (yes, no) tt
    by true true true true e = simp yes (leb-true _ _ e)

abbrev FiniteNumber : Option Float → Type 0
FiniteNumber n = T (finite (mm_of n))

zero-finite : T (finite (of_bits binary64 0))
unfolding Ieee.of_bits Ieee.of_fields Ieee.odd
zero-finite = tt

positive-finite : (w : Option ℕ) → Small w → FiniteNumber (positive w)
positive-finite (Some v) h = divided (of_int binary64 (pos v)) (pos-within v h)
positive-finite None h = zero-finite

negative-finite : (w : Option ℕ) → Small w → FiniteNumber (negative w)
negative-finite (Some v) h = divided (of_int binary64 (neg_ℤ (pos v))) (neg-within v h)
negative-finite None h = zero-finite

number-finite : (f : List ℕ) → FiniteNumber (field_number f)
unfolding field_number
number-finite [] = zero-finite
number-finite (b ∷ s) =
    either FiniteNumber (eqb b 45) (negative (whole_of s)) (positive (whole_of (b ∷ s))) (negative-finite (whole_of s) (small-whole s)) (positive-finite (whole_of (b ∷ s)) (small-whole (b ∷ s)))

-- THE NUMBERS OF A LINE ARE FINITE.
pub at-finite : (fs : List (List ℕ)) (i : ℕ) → T (finite (at fs i))
unfolding at
at-finite fs i = number-finite (get_or fs i [])
