-- The most material that may remain over a range of heights: over the bins from the first to the last that are looked at for its ends. Assumes nothing.
use Rattle.std.specs.Prelude.{Bool, ◌&&◌, List, ℕ, ◌+◌, ◌-◌, min, max, Float, Option, None}
use Rattle.std.specs.Float.Ieee.{le}
use Rattle.refusals.specs.Paper.{Paper, answers, onward}
use Rattle.floats.specs.Pick.{pick}
use Rattle.floats.specs.Numbers.{least_of, greatest_of, clean_of}
use Rattle.stock.specs.declared.TurnStockSpec.{TurnStockSpec}
use Rattle.stock.specs.Spec.{clean_spec}
use Rattle.queries.specs.declared.Band.{Band}
use Rattle.queries.specs.declared.BinSpan.{BinSpan}
use Rattle.queries.specs.Envelope.{first_at, last_at, most_over}
use Rattle.blocks.specs.Block.{kept_stock}

-- the range is not reversed, not wholly outside the stock, and neither end is a NaN
abbrev pub range_meets : TurnStockSpec → Float → Float → Bool
range_meets s lo hi = le lo hi && le s.z_min_mm hi && le lo s.z_max_mm

-- the bins from the first to the last that are looked at for two heights
abbrev pub bins_over : TurnStockSpec → ℕ → Float → Float → BinSpan
bins_over s n lo hi = record { first = min (first_at s n lo) (first_at s n hi); last = max (last_at s n lo) (last_at s n hi) }

-- those of a range, its ends brought to the edge of the stock
abbrev pub range_bins : TurnStockSpec → ℕ → Float → Float → BinSpan
range_bins s n lo hi = bins_over s n (greatest_of lo s.z_min_mm) (least_of hi s.z_max_mm)

-- the most over some bins
abbrev pub most_from : List Float → BinSpan → Option Band
most_from cs r = most_over cs r.first (r.last - r.first + 1)

-- what may remain of n cells over a range
unfoldable pub most_between : TurnStockSpec → ℕ → List Float → Float → Float → Option Band
most_between s n cs lo hi = pick (range_meets s lo hi) (most_from cs (range_bins s n lo hi)) None

-- the same of a stock with its kept numbers; 1, 2, 3, 20
unfoldable pub range_of : TurnStockSpec → List Float → List Float → Float → Float → Paper (Option Band)
range_of spec cs bs lo hi = onward (kept_stock spec cs bs) (λ n. answers (most_between (clean_spec spec) n cs (clean_of lo) (clean_of hi)))
