-- Kinds of radii that may be missing and of reaches: a low and a high of a bounded size give numbers that are finite and not -0.0. Assumes nothing.
use Rattle.std.specs.Prelude.{Option, None, Some}
use mathlib.Core.Bool.{Bool, true, false}
use Prim.Native.Nat.{ℕ, zero-le}
use lib.Ieee.{Float, binary64}
use Rattle.floats.specs.Pick.{pick}
use Rattle.floats.specs.Kinds.{Within}
use Rattle.floats.specs.Numbers.{clean_of}
use Rattle.floats.proofs.Lattice.{least-keeps, greatest-keeps}
use Rattle.floats.proofs.Cleared.{clean-plain, clean-keeps}
use Rattle.floats.proofs.Within.{number-within, within-weaken, within-neg, within-zero}
use Rattle.stock.specs.declared.TurnSide.{TurnSide}
use Rattle.stock.specs.declared.TurnSide.TheVariants.{Outer, Inner}
use Rattle.stock.proofs.Bins.{Sized}
use Rattle.reach.specs.Low.{lower_of, upper_of}
use Rattle.reach.specs.declared.Reach.{Reach}
use Rattle.reach.specs.declared.Reach.TheVariants.{Passed, Low, Both}
use Rattle.reach.specs.Reach.{stored_of, reach_from}
use Rattle.reach.specs.Kinds.{SomeOf, ReachOf}

-- ---- radii
module _ (P : Float → Type 0) where
  -- the lower of two radii has what both have
  pub lower-keeps : (a b : Option Float) → SomeOf P a → SomeOf P b → SomeOf P (lower_of a b)
  unfolding lower_of
  lower-keeps None b p q = q
  lower-keeps (Some x) None p q = p
  lower-keeps (Some x) (Some y) p q = least-keeps P p q

  -- and so has the upper
  pub upper-keeps : (a b : Option Float) → SomeOf P a → SomeOf P b → SomeOf P (upper_of a b)
  unfolding upper_of
  upper-keeps None b p q = tt
  upper-keeps (Some x) None p q = tt
  upper-keeps (Some x) (Some y) p q = greatest-keeps P p q

  -- and one that a test picks
  pub some-pick : (t : Bool) (a b : Option Float) → SomeOf P a → SomeOf P b → SomeOf P (pick t a b)
  unfolding pick
  some-pick true a b p q = p
  some-pick false a b p q = q

-- what every P is, a radius that is P is
pub some-map : {P Q : Float → Type 0} → ((x : Float) → P x → Q x) → (a : Option Float) → SomeOf P a → SomeOf Q a
some-map f None p = tt
some-map f (Some x) p = f x p

-- ---- reaches
-- what every P is, the numbers of a reach that are P are
pub reach-map : {P Q : Float → Type 0} → ((x : Float) → P x → Q x) → (r : Reach) → ReachOf P r → ReachOf Q r
reach-map f Passed p = tt
reach-map f (Low x) p = f x p
reach-map f (Both x y) p = (f x p.0, f y p.1)

-- one of two reaches, by a test
pub reach-pick : (P : Float → Type 0) (t : Bool) (a b : Reach) → ReachOf P a → ReachOf P b → ReachOf P (pick t a b)
unfolding pick
reach-pick P true a b p q = p
reach-pick P false a b p q = q

-- with +0.0 for -0.0, a number of a bounded size is plain
clean_is : {k : ℕ} {x : Float} → Within binary64 k x → Sized k (clean_of x)
clean_is {k} w = record { plain = clean-plain (number-within w); within = clean-keeps (λ (y : Float). Within binary64 k y) (within-weaken zero-le (within-zero binary64)) w }

-- what is stored of a radius
pub stored-sized : (side : TurnSide) {k : ℕ} {x : Float} → Within binary64 k x → Sized k (stored_of side x)
unfolding stored_of
stored-sized Outer w = clean_is w
stored-sized Inner w = clean_is (within-neg w)

-- the reach of a low and a high
pub reach-sized : (side : TurnSide) (k : ℕ) (a b : Option Float) → SomeOf (Within binary64 k) a → SomeOf (Within binary64 k) b → ReachOf (Sized k) (reach_from side a b)
unfolding reach_from
reach-sized side k None b p q = tt
reach-sized side k (Some x) None p q = stored-sized side p
reach-sized side k (Some x) (Some y) p q = (stored-sized side p, stored-sized side q)
