-- Which reaches and cuts the laws are about, and which of two radii lies deeper. Assumes nothing.
use Rattle.std.specs.Prelude.{◌≡◌, ◌⊎◌, ℕ, ◌<◌, T, Float, Option, None, Some}
use Rattle.std.specs.Float.{binary64}
use Rattle.std.specs.Float.Ieee.{le}
use Rattle.floats.specs.Kinds.{Plain}
use Rattle.stock.specs.declared.TurnSide.{TurnSide}
use Rattle.stock.specs.declared.TurnSide.TheVariants.{Outer, Inner}
use Rattle.reach.specs.declared.Reach.{Reach}
use Rattle.reach.specs.declared.Reach.TheVariants.{Passed, Low, Both}
use Rattle.reach.specs.Reach.{Act}

-- P holds of the radius, where there is one
abbrev pub SomeOf : (Float → Type 0) → Option Float → Type 0
SomeOf P None = Unit {0}
SomeOf P (Some x) = P x

-- P holds of each number of a reach
abbrev pub ReachOf : (Float → Type 0) → Reach → Type 0
ReachOf P Passed = Unit {0}
ReachOf P (Low x) = P x
ReachOf P (Both x y) = P x × P y

-- none of them is a NaN or -0.0
abbrev pub PlainReach : Reach → Type 0
PlainReach r = ReachOf (Plain binary64) r

-- so it is in each of the n bins
abbrev pub PlainAct : ℕ → Act → Type 0
PlainAct n a = (i : ℕ) → i < n → PlainReach (a.at i)

-- the cut is of this side
abbrev pub OnSide : TurnSide → Act → Type 0
OnSide σ a = a.side ≡ σ

-- the cut is of this side, or passes bin i over
abbrev pub OnlyAt : TurnSide → ℕ → Act → Type 0
OnlyAt σ i a = (a.side ≡ σ) ⊎ (a.at i ≡ Passed)

-- x lies as deep as y, or deeper: outside it is at most y, inside at least
unfoldable pub AsDeep : TurnSide → Float → Float → Type 0
AsDeep Outer x y = T (le x y)
AsDeep Inner x y = T (le y x)
