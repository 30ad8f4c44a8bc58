-- In 01's domain every number that a polygon reaches is finite, at most 2 ^ 23 in size, and not -0.0. Assumes nothing.
use Rattle.std.specs.Prelude.{Option, None, Some}
use mathlib.Core.Path.{◌≡◌}
use mathlib.Core.Bool.{true, ◌&&◌}
use mathlib.Core.List.{List}
use Prim.Native.Nat.{ℕ, ◌/◌, ◌%◌}
use lib.Dec.{T, eqb, leb, lit<, lit≤}
use lib.ListN.{length}
use lib.Ieee.{Float, binary64, fits, le}
use Rattle.refusals.specs.Limits.{point_limit}
use Rattle.floats.specs.Pick.{pick}
use Rattle.floats.specs.Numbers.{zero64, least_of, greatest_of, clean_of, usable, usable_to}
use Rattle.floats.specs.Kinds.{Finite, Within}
use Rattle.floats.proofs.Lattice.{least-keeps, greatest-keeps}
use Rattle.floats.proofs.Within.{finite-within, within-weaken, within-add}
use Rattle.stock.specs.declared.TurnStockSpec.{TurnStockSpec}
use Rattle.stock.specs.declared.TurnSide.{TurnSide}
use Rattle.stock.specs.declared.ZRange.{ZRange}
use Rattle.stock.specs.Bin.{bin_of}
use Rattle.reach.specs.Low.{lower_of, upper_of}
use Rattle.reach.specs.declared.Reach.TheVariants.{Passed}
use Rattle.reach.specs.Reach.{reach_from}
use Rattle.reach.specs.Kinds.{SomeOf, ReachOf}
use Rattle.reach.proofs.Reaches.{lower-keeps, upper-keeps, some-pick, some-map, reach-pick, reach-sized}
use Rattle.stock.proofs.Bins.{Sized, HeldList}
use Rattle.polygon.specs.declared.Span.{Span}
use Rattle.polygon.specs.Polygon.{polygon_good, lowest_of, extent_of, spans, lows_from, raised, high_from, low_in, high_in, skips, swept_reach, reach_over, polygon_reach, polygon_act}
use Rattle.polygon.proofs.First.{and_both}
use Rattle.polygon.proofs.Sizes.{EndsOf, usable-within, clean-within, lowest-within, lows-within, extent-within}

-- ---- a polygon that is not refused

-- its numbers are usable, and so is the excess
pub record Accepted (ps : List Float) (excess : Float) : Type 0 where
  pub points-usable : usable_to ps (length ps) ≡ true
  pub excess-usable : usable excess ≡ true
  pub excess-not-below : le zero64 excess ≡ true

-- a polygon that is not refused
pub accepted : (ps : List Float) (excess : Float) → polygon_good ps excess ≡ true → Accepted ps excess
unfolding polygon_good
accepted ps excess h =
    let a = eqb (length ps % 2) 0 in
    let b = leb (length ps / 2) point_limit in
    let c = usable_to ps (length ps) in
    let d = usable excess in
    let t = and_both (a && b && c && d) (le zero64 excess) h in
    let u = and_both (a && b && c) d t.0 in
    record { points-usable = (and_both (a && b) c u.0).1; excess-usable = u.1; excess-not-below = t.1 }

abbrev W : Float → Type 0
W = Within binary64 22

wider : (x : Float) → Within binary64 22 x → Within binary64 23 x
wider x w = within-weaken (lit≤ tt) w

-- the excess, of at most 2 ^ 20, makes a radius of at most 2 ^ 22 one of at most 2 ^ 23
raised-within : (excess : Float) → Within binary64 20 excess → (a : Option Float) → SomeOf (Within binary64 22) a → SomeOf (Within binary64 23) (raised excess a)
unfolding raised
raised-within excess x None p = tt
raised-within excess x (Some y) p = within-add p x (lit< tt)

module _ (ps : List Float) (excess : Float) (held : HeldList ps) (held-excess : T (fits binary64 excess)) (good : polygon_good ps excess ≡ true) (side : TurnSide) where
  ok : Accepted ps excess
  ok = accepted ps excess good

  sample : (z : Float) → Finite binary64 z → SomeOf W (lowest_of ps side z)
  sample z f = lowest-within ps held ok.points-usable side z f

  swept-sized : (b : ZRange) (e : Span) → Finite binary64 b.za → Finite binary64 b.zb → Finite binary64 e.lo → Finite binary64 e.hi → ReachOf (Sized 23) (swept_reach side (clean_of excess) ps b e)
  unfolding swept_reach low_in high_in high_from
  swept-sized b e A B L H =
      let start = lowest_of ps side (greatest_of b.za e.lo) in
      let end = lowest_of ps side (least_of b.zb e.hi) in
      let lows = lows-within ps held ok.points-usable side b (lower_of start end) (lower-keeps W start end (sample (greatest_of b.za e.lo) (greatest-keeps (Finite binary64) A L)) (sample (least_of b.zb e.hi) (least-keeps (Finite binary64) B H))) in
      let ends = upper-keeps W (lowest_of ps side b.za) (lowest_of ps side b.zb) (sample b.za A) (sample b.zb B) in
      let x = clean-within (usable-within excess held-excess ok.excess-usable) in
      let high = raised (clean_of excess) (upper_of (lowest_of ps side b.za) (lowest_of ps side b.zb)) in
      let t = le e.lo b.za && le b.zb e.hi in
      reach-pick (Sized 23) (skips b e.lo e.hi) Passed (reach_from side (low_in ps side b e.lo e.hi) (high_in ps side (clean_of excess) b e.lo e.hi)) tt
      (reach-sized side 23 (lows_from ps side b (lower_of start end)) (pick t high None) (some-map wider (lows_from ps side b (lower_of start end)) lows) (some-pick (Within binary64 23) t high None (raised-within (clean_of excess) x (upper_of (lowest_of ps side b.za) (lowest_of ps side b.zb)) ends) tt))

  -- in a bin whose ends are finite, each number that the polygon reaches is at most 2 ^ 23 in size, and neither a NaN nor -0.0
  pub polygon-sized : (s : TurnStockSpec) (i : ℕ) → Finite binary64 (bin_of s i).za → Finite binary64 (bin_of s i).zb → ReachOf (Sized 23) ((polygon_act s side excess ps).at i)
  unfolding polygon_act polygon_reach reach_over
  polygon-sized s i A B = go (extent_of ps) (extent-within ps held ok.points-usable)
    where
      go : (e : Option Span) → EndsOf (Within binary64 20) e → ReachOf (Sized 23) (reach_over s side (clean_of excess) ps i e)
      go None p = tt
      go (Some e) p = reach-pick (Sized 23) (spans s e.lo e.hi i) (swept_reach side (clean_of excess) ps (bin_of s i) e) Passed (swept-sized (bin_of s i) e A B (finite-within p.0) (finite-within p.1)) tt
