-- What least and greatest bound, in the order of any floats, and -0.0 read as +0.0. Assumes nothing.
use mathlib.Core.Path.{◌≡◌, refl, sym, ◌∙◌, ap}
use mathlib.Core.Logic.{◌⊎◌, inl, inr}
use mathlib.Core.Bool.{Bool, true, false, not, ◌&&◌, ◌||◌, true≢false, not-not}
use Prim.Native.Nat.{zero, suc}
use native.Mathlib.Nat.{zero-mul}
use lib.Dec.{T, not_T}
use lib.IntN.{ℤ}
use lib.Ieee.{Float, nan, inf, fin, lt, le, eq, is_nan, of_bits}
use lib.Ieee.Scale.{finite}
use lib.Ieee.Bits.{is_true, is_false}
use lib.Ieee.Fits.{and_l, and_r}
use Rattle.floats.specs.Pick.{pick}
use Rattle.floats.specs.Numbers.{zero64, least_of, greatest_of, minus_zero, clean_of}
use Rattle.floats.proofs.Lattice.{least-keeps, greatest-keeps}
use Rattle.floats.proofs.Bools.{so, to-false, same_tests, or_l, or_r}
use Rattle.floats.proofs.Anywhere.{le-number-l, le-number-r, lt-flips, le-chain, eq-turns}

-- ---- any two floats
pub lt-le : (x y : Float) → T (lt x y) → T (le x y)
unfolding le
lt-le x y t = or_l (lt x y) (eq x y) t

pub eq-le : (x y : Float) → T (eq x y) → T (le x y)
unfolding le
eq-le x y t = or_r (lt x y) (eq x y) t

pub lt-number-l : (x y : Float) → T (lt x y) → is_nan x ≡ false
lt-number-l x y t = le-number-l x y (lt-le x y t)

pub lt-number-r : (x y : Float) → T (lt x y) → is_nan y ≡ false
lt-number-r x y t = le-number-r x y (lt-le x y t)

-- not x < y is y <= x, and not x <= y is y < x
pub not-lt : (x y : Float) → is_nan x ≡ false → is_nan y ≡ false → lt x y ≡ false → T (le y x)
not-lt x y nx ny e = so (sym (not-not (le y x)) ∙ ap not (sym (lt-flips x y nx ny) ∙ e))

pub not-le : (x y : Float) → is_nan x ≡ false → is_nan y ≡ false → le x y ≡ false → T (lt y x)
not-le x y nx ny e = so (lt-flips y x ny nx ∙ ap not e)

pub clash : (x y : Float) → T (lt x y) → T (le y x) → ⊥
clash x y l m = true≢false (sym (is_true (lt x y) l) ∙ lt-flips x y (lt-number-l x y l) (lt-number-r x y l) ∙ ap not (is_true (le y x) m))

lt_by : (x y : Float) → is_nan x ≡ false → is_nan y ≡ false → (T (le y x) → ⊥) → T (lt x y)
lt_by x y nx ny n = not-le y x ny nx (to-false (le y x) n)

pub lt-le-chain : (x y z : Float) → T (lt x y) → T (le y z) → T (lt x z)
lt-le-chain x y z a b = lt_by x z (lt-number-l x y a) (le-number-r y z b) (λ c. clash x y a (le-chain y z x b c))

pub le-lt-chain : (x y z : Float) → T (le x y) → T (lt y z) → T (lt x z)
le-lt-chain x y z a b = lt_by x z (le-number-l x y a) (lt-number-r y z b) (λ c. clash y z b (le-chain z x y c a))

pub le_same : (x : Float) → is_nan x ≡ false → T (le x x)
le_same x n = go (le x x) refl
  where
    go : (b : Bool) → le x x ≡ b → T (le x x)
    go true e = so e
    go false e = lt-le x x (not-le x x n n e)

pub finite_number : (x : Float) → T (finite x) → is_nan x ≡ false
unfolding is_nan
finite_number nan t = absurd t
finite_number (inf s) t = absurd t
finite_number (fin s m e) t = refl

-- what lies between two that are finite is finite
pub finite-between : (a x b : Float) → T (finite a) → T (finite b) → T (le a x) → T (le x b) → T (finite x)
unfolding le
finite-between nan x b fa fb l m = absurd fa
finite-between (inf s) x b fa fb l m = absurd fa
finite-between (fin s n d) x nan fa fb l m = absurd fb
finite-between (fin s n d) x (inf t) fa fb l m = absurd fb
finite-between (fin s n d) nan (fin t k e) fa fb l m = absurd l
finite-between (fin s n d) (inf true) (fin t k e) fa fb l m = absurd l
finite-between (fin s n d) (inf false) (fin t k e) fa fb l m = absurd m
finite-between (fin s n d) (fin u i f) (fin t k e) fa fb l m = tt

-- a float is a NaN or none
pub number? : (x : Float) → (x ≡ nan) ⊎ (is_nan x ≡ false)
unfolding is_nan
number? nan = inl refl
number? (inf s) = inr refl
number? (fin s m e) = inr refl

-- ---- greatest and least
absorb-r : (x y : Bool) → (T y → T x) → y ≡ (x && y)
absorb-r true y f = refl
absorb-r false true f = absurd (f tt)
absorb-r false false f = refl

absorb-l : (x y : Bool) → (T x → T y) → x ≡ (x && y)
absorb-l true true f = refl
absorb-l true false f = absurd (f tt)
absorb-l false y f = refl

module _ (a b : Float) (na : is_nan a ≡ false) (nb : is_nan b ≡ false) where
  pub greatest-number : is_nan (greatest_of a b) ≡ false
  greatest-number = greatest-keeps (λ x. is_nan x ≡ false) na nb

  pub least-number : is_nan (least_of a b) ≡ false
  least-number = least-keeps (λ x. is_nan x ≡ false) na nb

  -- the greatest is at most z where both are, and z is below the least where it is below both
  pub greatest-below : (z : Float) → le (greatest_of a b) z ≡ (le a z && le b z)
  unfolding greatest_of pick
  greatest-below z = go (lt a b) refl
    where
      go : (t : Bool) → lt a b ≡ t → le (pick t b a) z ≡ (le a z && le b z)
      go true e = absorb-r (le a z) (le b z) (λ h. le-chain a b z (lt-le a b (so e)) h)
      go false e = absorb-l (le a z) (le b z) (λ h. le-chain b a z (not-lt a b na nb e) h)

  pub least_above : (z : Float) → lt z (least_of a b) ≡ (lt z a && lt z b)
  unfolding least_of pick
  least_above z = go (lt b a) refl
    where
      go : (t : Bool) → lt b a ≡ t → lt z (pick t b a) ≡ (lt z a && lt z b)
      go true e = absorb-r (lt z a) (lt z b) (λ h. lt-le-chain z b a h (lt-le b a (so e)))
      go false e = absorb-l (lt z a) (lt z b) (λ h. lt-le-chain z a b h (not-lt b a nb na e))

  pub greatest-over : T (le a (greatest_of a b)) × T (le b (greatest_of a b))
  greatest-over =
      let g = greatest_of a b in
      let h : T (le a g && le b g) = so (sym (greatest-below g) ∙ is_true (le g g) (le_same g greatest-number)) in
      (and_l (le a g) (le b g) h, and_r (le a g) (le b g) h)

  pub least_under : T (le (least_of a b) a) × T (le (least_of a b) b)
  unfolding least_of pick
  least_under = go (lt b a) refl
    where
      go : (t : Bool) → lt b a ≡ t → T (le (pick t b a) a) × T (le (pick t b a) b)
      go true e = (lt-le b a (so e), le_same b nb)
      go false e = (le_same a na, not-lt b a nb na e)

-- each of two below each of two others: the greatest of the ones below the least of the others
pub between : (a b c d : Float) → T (lt a c) → T (lt a d) → T (lt b c) → T (lt b d) → T (lt (greatest_of a b) (least_of c d))
between a b c d ac ad bc bd =
    greatest-keeps (λ x. T (lt x (least_of c d))) (least-keeps (λ y. T (lt a y)) ac ad) (least-keeps (λ y. T (lt b y)) bc bd)

-- ---- -0.0 read as +0.0
zero_number : is_nan zero64 ≡ false
unfolding is_nan of_bits
zero_number = refl

minus-zero-eq : (e : ℤ) → eq (fin true 0 e) zero64 ≡ true
unfolding eq of_bits
minus-zero-eq e = simp zero-mul

module _ (x : Float) where
  pub clean-number : is_nan x ≡ false → is_nan (clean_of x) ≡ false
  unfolding clean_of pick
  clean-number n = go (eq x zero64)
    where
      go : (t : Bool) → is_nan (pick t zero64 x) ≡ false
      go true = zero_number
      go false = n

  pub clean-unsigned : minus_zero (clean_of x) ≡ false
  unfolding clean_of pick minus_zero of_bits
  clean-unsigned = go x (eq x zero64) refl
    where
      go : (x : Float) (t : Bool) → eq x zero64 ≡ t → minus_zero (pick t zero64 x) ≡ false
      go x true e = refl
      go nan false e = refl
      go (inf s) false e = refl
      go (fin s (suc m) d) false e = refl
      go (fin true zero d) false e = absurd (true≢false (sym (minus-zero-eq d) ∙ e))
      go (fin false zero d) false e = refl

  -- it compares as it did
  pub le-clean : (z : Float) → le (clean_of x) z ≡ le x z
  unfolding clean_of pick
  le-clean z = go (eq x zero64) refl
    where
      go : (t : Bool) → eq x zero64 ≡ t → le (pick t zero64 x) z ≡ le x z
      go true e = same_tests (le zero64 z) (le x z) (λ h. le-chain x zero64 z (eq-le x zero64 (so e)) h) (λ h. le-chain zero64 x z (eq-turns x zero64 (so e)) h)
      go false e = refl

  pub lt-clean : (z : Float) → lt z (clean_of x) ≡ lt z x
  unfolding clean_of pick
  lt-clean z = go (eq x zero64) refl
    where
      go : (t : Bool) → eq x zero64 ≡ t → lt z (pick t zero64 x) ≡ lt z x
      go true e = same_tests (lt z zero64) (lt z x) (λ h. lt-le-chain z zero64 x h (eq-turns x zero64 (so e))) (λ h. lt-le-chain z x zero64 h (eq-le x zero64 (so e)))
      go false e = refl
