-- A place that is found or not: the first of a list, as one test after the other finds it. Assumes nothing.
use Rattle.std.proofs.Common.{◌≡◌, ℕ, Bool, true, false, ◌&&◌, refl, arith, Option, None, Some}
use Rattle.refusals.specs.Paper.{first_of}
use Rattle.floats.specs.Pick.{pick}

-- a place that is found
pub record Found (o : Option ℕ) : Type 0 where
  pub place : ℕ
  pub is : o ≡ Some place

-- where the tests do not all hold
pub found-by : (k : ℕ) (t r : Bool) (o : Option ℕ) → (t && r) ≡ false → (r ≡ false → Found o) → Found (pick t o (Some k))
unfolding pick
found-by k true r o e f = f e
found-by k false r o e f = record { place = k; is = refl }

-- behind one test more
pub pick_first : (k : ℕ) (t : Bool) (x x' y : Option ℕ) → x ≡ first_of x' y → pick t x (Some k) ≡ first_of (pick t x' (Some k)) y
unfolding pick
pick_first k true x x' y e = e
pick_first k false x x' y e = refl

-- what is found stays
pub pick-stops : (k p : ℕ) (t : Bool) (x x' : Option ℕ) → (x ≡ Some p → x' ≡ Some p) → pick t x (Some k) ≡ Some p → pick t x' (Some k) ≡ Some p
unfolding pick
pick-stops k p true x x' f e = f e
pick-stops k p false x x' f e = e

pub none-some : (p : ℕ) → None ≡ Some p → ⊥
none-some p h = let z : ◌≡◌ {A = ℕ} 0 1 = cc in omega arith
