-- The least and the greatest volume that remains, in 000's order of operations. Assumes nothing.
use Rattle.std.specs.Prelude.{ℕ, zero, suc, List, Float}
use Rattle.std.specs.Float.{binary64}
use Rattle.std.specs.Float.Ieee.{of_bits, le, lt}
use Rattle.refusals.specs.Paper.{Paper, answers, demand, onward}
use Rattle.floats.specs.Pick.{pick}
use Rattle.floats.specs.Numbers.{◌+₆₄◌, ◌-₆₄◌, ◌*₆₄◌, zero64, least_of, greatest_of}
use Rattle.stock.specs.declared.TurnStockSpec.{TurnStockSpec}
use Rattle.stock.specs.declared.TurnCell.{TurnCell}
use Rattle.stock.specs.declared.ZRange.{ZRange}
use Rattle.stock.specs.Spec.{clean_spec}
use Rattle.stock.specs.Bin.{bin_of}
use Rattle.stock.specs.Cell.{cell_at, stock_of}
use Rattle.rings.specs.declared.Ring.{Ring}
use Rattle.rings.specs.Store.{bar_ring, ring_at, count_fits}
use Rattle.queries.specs.declared.Band.{Band}
use Rattle.queries.specs.declared.Volumes.{Volumes}
use Rattle.queries.specs.Material.{band, sure_of, most_of}

-- pi's bits
abbrev pub pi64 : Float
pi64 = of_bits binary64 0x400921FB54442D18

-- what a band holds over a height h: (pi * (outer^2 - bore^2)) * h, squares by one product
unfoldable pub tube_of : Band → Float → Float
tube_of b h = pi64 *₆₄ (b.outer *₆₄ b.outer -₆₄ b.bore *₆₄ b.bore) *₆₄ h

-- what a band holds in a bin, its outer radius no less than its bore; a negative height counts
unfoldable pub held_in : Band → ZRange → Float
held_in b z = tube_of (band b.bore (greatest_of b.outer b.bore)) (z.zb -₆₄ z.za)

-- the part of a band that a ring takes
abbrev pub taken_of : Band → Ring → Band
taken_of b q = band (greatest_of q.r0 b.bore) (least_of q.r1 b.outer)

-- the height that a ring and a bin have in common; it may be negative
abbrev pub height_of : ZRange → Ring → Float
height_of z q = least_of z.zb q.z1 -₆₄ greatest_of z.za q.z0

-- less what a ring takes of a band over a height, if there is some
unfoldable pub less_band : Band → Ring → Float → Float → Float
less_band b q h v = pick (lt (taken_of b q).bore (taken_of b q).outer) (v -₆₄ tube_of (taken_of b q) h) v

-- less what it takes of a band in a bin; a height of 0 or less is skipped
unfoldable pub less_in : Band → ZRange → Ring → Float → Float
less_in b z q v = pick (le (height_of z q) zero64) v (less_band b q (height_of z q) v)

-- ---- one bound: `of` is the band of a cell that it goes by
module _ (of : TurnCell → Band) (s : TurnStockSpec) (cs : List Float) where
  -- the first n bins, summed bin by bin
  unfoldable pub sum_of : ℕ → Float
  sum_of zero = zero64
  sum_of (suc i) = sum_of i +₆₄ held_in (of (cell_at cs i)) (bin_of s i)

  -- less what a ring takes of the first n bins, bin by bin
  unfoldable pub less_ring : Ring → Float → ℕ → Float
  less_ring q v zero = v
  less_ring q v (suc i) = less_in (of (cell_at cs i)) (bin_of s i) q (less_ring q v i)

  -- less what the first k rings of xs take of n bins, ring by ring
  unfoldable pub less_rings : ℕ → List Float → Float → ℕ → Float
  less_rings n xs v zero = v
  less_rings n xs v (suc k) = less_ring (ring_at xs k) (less_rings n xs v k) n

  -- what remains of n bins without the first k rings, never below 0
  unfoldable pub remains : ℕ → List Float → ℕ → Float
  remains n xs k = greatest_of (less_rings n xs (sum_of n) k) zero64

-- ---- both bounds
abbrev pub volume_in : TurnStockSpec → List Float → ℕ → List Float → ℕ → Volumes
volume_in s cs n xs k = record { least = remains sure_of s cs n xs k; greatest = remains most_of s cs n xs k }

-- the same of a stock and its stored rings; 1, 2, 3, 4
unfoldable pub volume_of : TurnStockSpec → List Float → List Float → ℕ → Paper Volumes
volume_of spec cs xs k =
    onward (stock_of spec cs) (λ n.
    demand (count_fits (bar_ring (clean_spec spec)) xs k) 4
    (answers (volume_in (clean_spec spec) cs n xs k)))
