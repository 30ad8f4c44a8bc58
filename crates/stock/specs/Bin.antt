-- The bins of a stock along z. Assumes nothing.
use Rattle.std.specs.Prelude.{ℕ, pos, nat_lt, Float}
use Rattle.std.specs.Float.{binary64}
use Rattle.std.specs.Float.Ieee.{of_int}
use Rattle.refusals.specs.Paper.{Paper, answers, demand, onward}
use Rattle.floats.specs.Numbers.{◌+₆₄◌, ◌*₆₄◌, least_of}
use Rattle.stock.specs.declared.TurnStockSpec.{TurnStockSpec}
use Rattle.stock.specs.declared.ZRange.{ZRange}
use Rattle.stock.specs.Spec.{clean_spec, cells_of}

-- za = z_min + i * cell
abbrev pub start_of : TurnStockSpec → ℕ → Float
start_of s i = s.z_min_mm +₆₄ (of_int binary64 (pos i) *₆₄ s.cell_mm)

-- bin i: from za to the least of za + cell and z_max
unfoldable pub bin_of : TurnStockSpec → ℕ → ZRange
bin_of s i = record { za = start_of s i; zb = least_of (start_of s i +₆₄ s.cell_mm) s.z_max_mm }

-- the range of bin i; 1, 2, then 21 for an index of n or more, of no place: there is no list
unfoldable pub bin_for : TurnStockSpec → ℕ → Paper ZRange
bin_for spec i = onward (cells_of spec) (λ n. demand (nat_lt i n) 21 (answers (bin_of (clean_spec spec) i)))
