-- What a cut makes of a cell, and what cuts of one side make of it, written out for each side as 01 has it: floor or ceiling first, then each bound, then the pair ordered. Assumes nothing.
use mathlib.Core.Path.{◌≡◌, refl}
use mathlib.Core.List.{List, foldl}
use lib.Ieee.{Float, binary64}
use Rattle.floats.specs.Numbers.{least_of, greatest_of}
use Rattle.floats.specs.Kinds.{Plain}
use Rattle.stock.specs.declared.RadiusBounds.{RadiusBounds}
use Rattle.stock.specs.declared.TurnCell.{TurnCell}
use Rattle.stock.specs.declared.TurnSide.{TurnSide}
use Rattle.stock.specs.declared.TurnSide.TheVariants.{Outer, Inner}
use Rattle.reach.specs.Closed.{gather, lows_of, highs_of, closed}
use Rattle.reach.specs.declared.Reach.{Reach}
use Rattle.reach.specs.declared.Reach.TheVariants.{Passed, Low, Both}
use Rattle.reach.specs.Reach.{deeper, shallower, deep_of, sure_of, limit_of, with_pair, own_of, cut_by, cut_cell}
use Rattle.reach.proofs.Sides.{Ordered}
use Rattle.reach.proofs.OneByOne.{own-plain, ordered-cut}

-- the bounds with these two
abbrev bounds : Float → Float → RadiusBounds
bounds lower upper = record { lower_mm = lower; upper_mm = upper }

-- a bin that is passed over keeps its cell
pub passed_over : (σ : TurnSide) (c : TurnCell) → cut_cell σ c Passed ≡ c
unfolding cut_cell cut_by own_of
passed_over σ c = refl

module _ (c : TurnCell) (x y : Float) where
  -- outside, a low only: lower becomes the least of lower and the greatest of the low and inner.lower
  pub outside_low : cut_cell Outer c (Low x) ≡ record { outer = bounds (least_of c.outer.lower_mm (greatest_of x c.inner.lower_mm)) c.outer.upper_mm; inner = c.inner }
  unfolding cut_cell cut_by own_of with_pair deeper shallower deep_of sure_of limit_of
  outside_low = refl

  -- a low and a high: upper likewise, then lower is brought down to upper
  pub outside-both : (let upper = least_of c.outer.upper_mm (greatest_of y c.inner.lower_mm) in cut_cell Outer c (Both x y) ≡ record { outer = bounds (least_of (least_of c.outer.lower_mm (greatest_of x c.inner.lower_mm)) upper) upper; inner = c.inner })
  unfolding cut_cell cut_by own_of with_pair deeper shallower deep_of sure_of limit_of
  outside-both = refl

  -- inside, a low only: upper becomes the greatest of upper and the least of the low and outer.upper
  pub inside-low : cut_cell Inner c (Low x) ≡ record { outer = c.outer; inner = bounds c.inner.lower_mm (greatest_of c.inner.upper_mm (least_of x c.outer.upper_mm)) }
  unfolding cut_cell cut_by own_of with_pair deeper shallower deep_of sure_of limit_of
  inside-low = refl

  -- a low and a high: lower likewise, then upper is brought up to lower
  pub inside_both : (let lower = greatest_of c.inner.lower_mm (least_of y c.outer.upper_mm) in cut_cell Inner c (Both x y) ≡ record { outer = c.outer; inner = bounds lower (greatest_of (greatest_of c.inner.upper_mm (least_of x c.outer.upper_mm)) lower) })
  unfolding cut_cell cut_by own_of with_pair deeper shallower deep_of sure_of limit_of
  inside_both = refl

-- ---- the closed form, from own bounds
module _ (c : TurnCell) (own : List Reach) where
  -- outside: the least of lower and the lows, the least of upper and the highs, then lower is brought down to upper
  pub closed-outside : (let upper = foldl least_of c.outer.upper_mm (gather highs_of own) in closed Outer c own ≡ record { outer = bounds (least_of (foldl least_of c.outer.lower_mm (gather lows_of own)) upper) upper; inner = c.inner })
  unfolding closed with_pair deeper deep_of sure_of
  closed-outside = refl

  -- inside: the greatest of upper and the lows, the greatest of lower and the highs, then upper is brought up to lower
  pub closed-inside : (let lower = foldl greatest_of c.inner.lower_mm (gather highs_of own) in closed Inner c own ≡ record { outer = c.outer; inner = bounds lower (greatest_of (foldl greatest_of c.inner.upper_mm (gather lows_of own)) lower) })
  unfolding closed with_pair deeper deep_of sure_of
  closed-inside = refl

-- ---- to order the pair after a cut with a low only would change nothing, where the pair was ordered
pub order-again : (σ : TurnSide) (c : TurnCell) (x : Float) → Ordered σ c → Plain binary64 x → (let c' = cut_cell σ c (Low x) in deeper σ (deep_of σ c') (sure_of σ c') ≡ deep_of σ c')
unfolding cut_cell
order-again σ c x o p = (ordered-cut σ c (own_of σ c (Low x)) o (own-plain σ c (Low x) o.limit p)).order
