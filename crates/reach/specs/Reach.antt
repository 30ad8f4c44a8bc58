-- What a cut reaches in a bin, and what it makes of a cell. Assumes nothing.
use Rattle.std.specs.Prelude.{ℕ, Float, Option, None, Some}
use Rattle.std.specs.Float.Ieee.{neg}
use Rattle.floats.specs.Numbers.{least_of, greatest_of, clean_of}
use Rattle.stock.specs.declared.TurnCell.{TurnCell}
use Rattle.stock.specs.declared.TurnSide.{TurnSide}
use Rattle.stock.specs.declared.TurnSide.TheVariants.{Outer, Inner}
use Rattle.reach.specs.declared.Reach.{Reach}
use Rattle.reach.specs.declared.Reach.TheVariants.{Passed, Low, Both}

-- the low of a reach, if the bin is not passed over
unfoldable pub low_of : Reach → Option Float
low_of Passed = None
low_of (Low x) = Some x
low_of (Both x y) = Some x

-- ---- the two sides as one
-- A cut takes the surface deeper: outside towards the axis, inside away from it. Of the bounds of a surface the deep one is how deep it may lie
-- (outer.lower, inner.upper), and the sure one how deep it lies at least (outer.upper, inner.lower).

-- of two radii, the one that lies deeper
unfoldable pub deeper : TurnSide → Float → Float → Float
deeper Outer = least_of
deeper Inner = greatest_of

-- and the one that lies less deep
unfoldable pub shallower : TurnSide → Float → Float → Float
shallower Outer = greatest_of
shallower Inner = least_of

unfoldable pub deep_of : TurnSide → TurnCell → Float
deep_of Outer c = c.outer.lower_mm
deep_of Inner c = c.inner.upper_mm

unfoldable pub sure_of : TurnSide → TurnCell → Float
sure_of Outer c = c.outer.upper_mm
sure_of Inner c = c.inner.lower_mm

-- no cut goes deeper: the floor outside, the ceiling inside
unfoldable pub limit_of : TurnSide → TurnCell → Float
limit_of Outer c = c.inner.lower_mm
limit_of Inner c = c.outer.upper_mm

-- the cell with these two bounds on a side
unfoldable pub with_pair : TurnSide → Float → Float → TurnCell → TurnCell
with_pair Outer deep sure c = record { outer = record { lower_mm = deep; upper_mm = sure }; inner = c.inner }
with_pair Inner deep sure c = record { outer = c.outer; inner = record { lower_mm = sure; upper_mm = deep } }

-- ---- what a cut makes of a cell

-- a cut's own bounds in a cell: what it reaches, after floor or ceiling
unfoldable pub own_of : TurnSide → TurnCell → Reach → Reach
own_of σ c Passed = Passed
own_of σ c (Low x) = Low (shallower σ x (limit_of σ c))
own_of σ c (Both x y) = Both (shallower σ x (limit_of σ c)) (shallower σ y (limit_of σ c))

-- the cell after own bounds: each bound as deep as the own one, and the deep bound then at least as deep as the sure one
unfoldable pub cut_by : TurnSide → TurnCell → Reach → TurnCell
cut_by σ c Passed = c
cut_by σ c (Low x) = with_pair σ (deeper σ (deep_of σ c) x) (sure_of σ c) c
cut_by σ c (Both x y) =
    let sure = deeper σ (sure_of σ c) y in
    with_pair σ (deeper σ (deeper σ (deep_of σ c) x) sure) sure c

unfoldable pub cut_cell : TurnSide → TurnCell → Reach → TurnCell
cut_cell σ c r = cut_by σ c (own_of σ c r)

-- A cut, as far as cells go: its side, and what it reaches in each bin.
pub record Act : Type 0 where
  pub side : TurnSide
  pub at : ℕ → Reach

-- what it makes of the cell of bin i
abbrev pub act_cell : Act → ℕ → TurnCell → TurnCell
act_cell a i c = cut_cell a.side c (a.at i)

-- ---- what a nose or a polygon reaches is worked out for the outside, with radii negated for the inside

-- radii are negated for the inside
unfoldable pub flipped : TurnSide → Float → Float
flipped Outer r = r
flipped Inner r = neg r

-- negated back, with +0.0 for -0.0
unfoldable pub stored_of : TurnSide → Float → Float
stored_of Outer x = clean_of x
stored_of Inner x = clean_of (neg x)

-- no low, no reach
unfoldable pub reach_from : TurnSide → Option Float → Option Float → Reach
reach_from σ None high = Passed
reach_from σ (Some x) None = Low (stored_of σ x)
reach_from σ (Some x) (Some y) = Both (stored_of σ x) (stored_of σ y)
