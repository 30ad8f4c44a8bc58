-- Of two floats the least and the greatest are the first where the second is not beyond it: at every float, a NaN or not. Assumes nothing.
use mathlib.Core.Path.{◌≡◌, refl}
use mathlib.Core.Bool.{Bool, true, false, ◌&&◌, ◌||◌, false≢true}
use Prim.Native.Nat.{ℕ, ◌+◌, ◌*◌}
use native.Mathlib.Omega.{arith}
use lib.Dec.{ltb, eqb}
use lib.Ieee.{Float, nan, inf, fin, up, down, below, level, lt, le, eq}
use borrow.Author.Tests.{ltb-true, le-ltb, eqb-true}
use Rattle.floats.specs.Pick.{pick-false}
use Rattle.floats.specs.Numbers.{least_of, greatest_of}

-- two tests that both hold
pub and_both : (a b : Bool) → (a && b) ≡ true → (a ≡ true) × (b ≡ true)
and_both true b e = (refl, e)
and_both false b e = absurd (false≢true e)

module _ (a b : ℕ) where
  either : (p q : Bool) (P : Type 0) → (p ≡ true → P) → (a ≡ b → P) → (p || (eqb a b && q)) ≡ true → P
  either true q P f g e = f refl
  either false q P f g e = g (eqb-true a b (and_both (eqb a b) q e).0)

  sides : (s t : Bool) → (below s a t b || level s a t b) ≡ true → below t b s a ≡ false
  sides true true e = either (ltb b a) true (ltb a b ≡ false) (λ h. let l = ltb-true b a h in le-ltb a b (omega arith)) (λ l. le-ltb a b (omega arith)) e
  sides true false e = refl
  sides false true e = let z = and_both (eqb a b) (eqb a 0) e in let l = eqb-true a b z.0 in let k = eqb-true a 0 z.1 in le-ltb 0 (b + a) (omega arith)
  sides false false e = either (ltb a b) true (ltb b a ≡ false) (λ h. let l = ltb-true a b h in le-ltb b a (omega arith)) (λ l. le-ltb b a (omega arith)) e

-- what is at most another is not above it
pub le-not-above : (x y : Float) → le x y ≡ true → lt y x ≡ false
unfolding le lt eq
le-not-above nan y e = absurd (false≢true e)
le-not-above (inf s) nan e = refl
le-not-above (inf true) (inf true) e = refl
le-not-above (inf true) (inf false) e = refl
le-not-above (inf false) (inf true) e = absurd (false≢true e)
le-not-above (inf false) (inf false) e = refl
le-not-above (inf true) (fin t n d) e = refl
le-not-above (inf false) (fin t n d) e = absurd (false≢true e)
le-not-above (fin s m e) nan h = refl
le-not-above (fin s m e) (inf true) h = absurd (false≢true h)
le-not-above (fin s m e) (inf false) h = refl
le-not-above (fin s m e) (fin t n d) h = sides (m * up e * down d) (n * up d * down e) s t h

-- the greatest of a and b is a where b is at most a
pub greatest-first : (a b : Float) → le b a ≡ true → greatest_of a b ≡ a
unfolding greatest_of
greatest-first a b h = pick-false (lt a b) b a (le-not-above b a h)

-- the least of a and b is a where a is at most b
pub least_first : (a b : Float) → le a b ≡ true → least_of a b ≡ a
unfolding least_of
least_first a b h = pick-false (lt b a) b a (le-not-above a b h)
