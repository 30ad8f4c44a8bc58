-- What a convex polygon in (z, r) reaches in a bin. Its points are z, r, z, r, .. in the order around it. Assumes nothing.
use Rattle.std.specs.Prelude.{◌≡◌, Bool, not, ◌&&◌, ◌||◌, List, ℕ, zero, suc, ◌+◌, ◌*◌, ◌/◌, ◌%◌, min, leb, eqb, length, Float, Option, None, Some}
use Rattle.std.specs.Float.Ieee.{lt, le, eq}
use Rattle.refusals.specs.Limits.{point_limit}
use Rattle.floats.specs.Pick.{pick}
use Rattle.floats.specs.Numbers.{◌+₆₄◌, ◌-₆₄◌, ◌*₆₄◌, ◌/₆₄◌, zero64, least_of, greatest_of, clean_of, usable, usable_to}
use Rattle.numbers.specs.Whole.{whole_part}
use Rattle.stock.specs.declared.TurnStockSpec.{TurnStockSpec}
use Rattle.stock.specs.declared.TurnSide.{TurnSide}
use Rattle.stock.specs.declared.ZRange.{ZRange}
use Rattle.stock.specs.Bin.{bin_of}
use Rattle.stock.specs.Cell.{number_at}
use Rattle.reach.specs.declared.Swept.{Swept}
use Rattle.reach.specs.Low.{lower_of, upper_of}
use Rattle.reach.specs.declared.Reach.{Reach}
use Rattle.reach.specs.declared.Reach.TheVariants.{Passed}
use Rattle.reach.specs.Reach.{flipped, reach_from, Act}
use Rattle.polygon.specs.declared.Point.{Point}
use Rattle.polygon.specs.declared.Span.{Span}
use Rattle.stock.specs.declared.BinRange.{BinRange}

-- ---- refusal 5

-- whole points, 64 at most, every number usable, excess >= 0; else 5
unfoldable pub polygon_good : List Float → Float → Bool
polygon_good ps excess = eqb (length ps % 2) 0 && leb (length ps / 2) point_limit && usable_to ps (length ps) && usable excess && le zero64 excess

-- ---- points and edges

-- the z of point i; -0.0 is read as +0.0
unfoldable pub height_at : List Float → ℕ → Float
height_at ps i = clean_of (number_at ps (2 * i))

-- point i
unfoldable pub point_at : List Float → TurnSide → ℕ → Point
point_at ps side i = record { z = height_at ps i; r = flipped side (clean_of (number_at ps (2 * i + 1))) }

-- the radius between p and q at z; of an upright edge the lesser end
unfoldable pub along_of : Point → Point → Float → Float
along_of p q z = pick (eq q.z p.z) (least_of p.r q.r) (p.r +₆₄ (z -₆₄ p.z) /₆₄ (q.z -₆₄ p.z) *₆₄ (q.r -₆₄ p.r))

-- z lies beside an edge from one height to another
abbrev pub beside_of : Float → Float → Float → Bool
beside_of a b z = lt z (least_of a b) || lt (greatest_of a b) z

-- the radius of the edge from p to q at z; none beside it
unfoldable pub edge_at : Point → Point → Float → Option Float
edge_at p q z = pick (beside_of p.z q.z z) None (Some (along_of p q z))

-- the lowest at z of the first k edges of n points: edge i goes from point i to the next, the last back to point 0
unfoldable pub lowest_to : List Float → TurnSide → ℕ → Float → ℕ → Option Float
lowest_to ps side n z zero = None
lowest_to ps side n z (suc i) = lower_of (lowest_to ps side n z i) (edge_at (point_at ps side i) (point_at ps side ((i + 1) % n)) z)

-- the lowest at z of all edges; -0.0 is read as +0.0
unfoldable pub lowest_of : List Float → TurnSide → Float → Option Float
lowest_of ps side z = lowest_to ps side (length ps / 2) (clean_of z) (length ps / 2)

-- ---- the extent along z

-- the extent with one z more
unfoldable pub widened : Option Span → Float → Span
widened None z = record { lo = z; hi = z }
widened (Some e) z = record { lo = least_of e.lo z; hi = greatest_of e.hi z }

-- the extent of the first k points
unfoldable pub extent_to : List Float → ℕ → Option Span
extent_to ps zero = None
extent_to ps (suc i) = Some (widened (extent_to ps i) (height_at ps i))

-- the extent of all points; none where there are none
unfoldable pub extent_of : List Float → Option Span
extent_of ps = extent_to ps (length ps / 2)

-- ---- which bins are visited

-- the whole part of (z - z_min) / cell, 0 where that is negative
abbrev pub index_of : TurnStockSpec → Float → ℕ
index_of s z = whole_part ((z -₆₄ s.z_min_mm) /₆₄ s.cell_mm)

-- a polygon from lo to hi lies beside the stock
abbrev pub beside : TurnStockSpec → Float → Float → Bool
beside s lo hi = lt hi s.z_min_mm || lt s.z_max_mm lo

-- bin i is visited: the polygon does not lie beside the stock, and i is in its index range
unfoldable pub spans : TurnStockSpec → Float → Float → ℕ → Bool
spans s lo hi i = not (beside s lo hi) && leb (index_of s lo) i && leb i (index_of s hi)

-- one past the last bin, which is n - 1 at most
unfoldable pub past_of : ℕ → ℕ → ℕ
past_of last n = min (last + 1) n

-- no bins
abbrev pub no_bins : BinRange
no_bins = record { from = 0; to = 0 }

-- from the first to before `past`; none where the first is not below it
unfoldable pub bins_from : ℕ → ℕ → BinRange
bins_from first past = pick (leb past first) no_bins (record { from = first; to = past })

-- of n bins, those that are visited
unfoldable pub bins_of : TurnStockSpec → Float → Float → ℕ → BinRange
bins_of s lo hi n = pick (beside s lo hi) no_bins (bins_from (index_of s lo) (past_of (index_of s hi) n))

-- ---- what a bin gets

-- a vertex at z is a sample of the bin: strictly between its ends
abbrev pub inside : ZRange → Float → Bool
inside b z = lt b.za z && lt z b.zb

-- the lowest over what is there at the start and the samples among the first k vertices
unfoldable pub lows_to : List Float → TurnSide → ZRange → Option Float → ℕ → Option Float
lows_to ps side b start zero = start
lows_to ps side b start (suc i) = pick (inside b (height_at ps i)) (lower_of (lows_to ps side b start i) (lowest_of ps side (height_at ps i))) (lows_to ps side b start i)

-- the same among all vertices
unfoldable pub lows_from : List Float → TurnSide → ZRange → Option Float → Option Float
lows_from ps side b start = lows_to ps side b start (length ps / 2)

-- a radius with the excess
unfoldable pub raised : Float → Option Float → Option Float
raised excess None = None
raised excess (Some x) = Some (x +₆₄ excess)

-- the higher of two ends with the excess, where lo..hi covers the bin
unfoldable pub high_from : Float → ZRange → Float → Float → Option Float → Option Float → Option Float
high_from excess b lo hi start end = pick (le lo b.za && le b.zb hi) (raised excess (upper_of start end)) None

-- what `swept_in` answers, of the lowest at the two ends
pub record Sweeps (ps : List Float) (side : TurnSide) (excess : Float) (b : ZRange) (lo hi : Float) (start end : Option Float) (r : Swept) : Type 0 where
  pub low : r.low ≡ lows_from ps side b (lower_of start end)
  pub high : r.high ≡ high_from excess b lo hi start end

-- the lowest over a bin: at its ends, brought into lo..hi, and at each vertex between them
unfoldable pub low_in : List Float → TurnSide → ZRange → Float → Float → Option Float
low_in ps side b lo hi = lows_from ps side b (lower_of (lowest_of ps side (greatest_of b.za lo)) (lowest_of ps side (least_of b.zb hi)))

-- the highest over a bin that lo..hi covers: at an end, with the excess
unfoldable pub high_in : List Float → TurnSide → Float → ZRange → Float → Float → Option Float
high_in ps side excess b lo hi = high_from excess b lo hi (lowest_of ps side b.za) (lowest_of ps side b.zb)

-- a bin that ends at lo or before, or starts at hi or after, is skipped
abbrev pub skips : ZRange → Float → Float → Bool
skips b lo hi = le b.zb lo || le hi b.za

-- what a polygon from lo to hi reaches in a bin that is visited
unfoldable pub swept_reach : TurnSide → Float → List Float → ZRange → Span → Reach
swept_reach side excess ps b e = pick (skips b e.lo e.hi) Passed (reach_from side (low_in ps side b e.lo e.hi) (high_in ps side excess b e.lo e.hi))

-- the same in bin i, where it is visited; no points reach nothing
unfoldable pub reach_over : TurnStockSpec → TurnSide → Float → List Float → ℕ → Option Span → Reach
reach_over s side excess ps i None = Passed
reach_over s side excess ps i (Some e) = pick (spans s e.lo e.hi i) (swept_reach side excess ps (bin_of s i) e) Passed

-- what a polygon reaches in bin i
unfoldable pub polygon_reach : TurnStockSpec → TurnSide → Float → List Float → ℕ → Reach
polygon_reach s side excess ps i = reach_over s side excess ps i (extent_of ps)

-- a polygon cut, in a spec whose numbers are checked
unfoldable pub polygon_act : TurnStockSpec → TurnSide → Float → List Float → Act
polygon_act s side excess ps = record { side = side; at = polygon_reach s side (clean_of excess) ps }
