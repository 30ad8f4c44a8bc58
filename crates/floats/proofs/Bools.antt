-- Tests that hold and tests that fail: a Bool and what it says. Assumes nothing.
use mathlib.Core.Path.{◌≡◌, refl, sym, subst}
use mathlib.Core.Bool.{Bool, true, false, ◌||◌}
use lib.Dec.{T, not_T}
use lib.Ieee.Bits.{is_false}

-- a test that is true holds
pub so : {b : Bool} → b ≡ true → T b
so e = subst T (sym e) tt

-- one that does not hold is false
pub to-false : (b : Bool) → (T b → ⊥) → b ≡ false
to-false b n = is_false b (not_T b n)

-- two that hold together are one
pub same_tests : (a b : Bool) → (T a → T b) → (T b → T a) → a ≡ b
same_tests true true f g = refl
same_tests true false f g = absurd (f tt)
same_tests false true f g = absurd (g tt)
same_tests false false f g = refl

-- either of two, and which
pub or_l : (a b : Bool) → T a → T (a || b)
or_l true b t = tt
or_l false b t = absurd t

pub or_r : (a b : Bool) → T b → T (a || b)
or_r true b t = tt
or_r false b t = t
