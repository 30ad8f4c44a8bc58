-- A stock's spec, and how many cells it has. Assumes nothing.
use Rattle.std.specs.Prelude.{ℕ, Bool, not, ◌&&◌, ◌==◌, nat_le, Float, Option, None, Some}
use Rattle.std.specs.Float.Ieee.{le, lt}
use Rattle.refusals.specs.Paper.{Paper, answers, refuses, only, demand}
use Rattle.refusals.specs.Limits.{cell_limit}
use Rattle.floats.specs.Numbers.{◌-₆₄◌, ◌/₆₄◌, zero64, clean_of, usable}
use Rattle.numbers.specs.Whole.{whole_up}
use Rattle.stock.specs.declared.TurnStockSpec.{TurnStockSpec}

-- -0.0 is read as +0.0
unfoldable pub clean_spec : TurnStockSpec → TurnStockSpec
clean_spec s =
    record {
      z_min_mm = clean_of s.z_min_mm;
      z_max_mm = clean_of s.z_max_mm;
      outer_radius_mm = clean_of s.outer_radius_mm;
      bore_radius_mm = clean_of s.bore_radius_mm;
      cell_mm = clean_of s.cell_mm;
      max_cells = s.max_cells;
    }

-- every number usable, z_min < z_max, 0 <= bore < outer, cell > 0
unfoldable pub spec_good : TurnStockSpec → Bool
spec_good s =
    usable s.z_min_mm && usable s.z_max_mm && usable s.outer_radius_mm && usable s.bore_radius_mm && usable s.cell_mm
    && lt s.z_min_mm s.z_max_mm && le zero64 s.bore_radius_mm && lt s.bore_radius_mm s.outer_radius_mm && lt zero64 s.cell_mm

-- (z_max - z_min) / cell, each operation rounded
abbrev pub quotient : TurnStockSpec → Float
quotient s = (s.z_max_mm -₆₄ s.z_min_mm) /₆₄ s.cell_mm

-- 2 unless n is there, not 0, and at most max_cells
abbrev pub counted : ℕ → Option ℕ → Paper ℕ
counted most None = refuses (only 2)
counted most (Some n) = demand (not (n == 0) && nat_le n most) 2 (answers n)

-- the number of cells: the least whole number at or above the quotient; 1, 2
unfoldable pub cells_of : TurnStockSpec → Paper ℕ
cells_of spec =
    let s = clean_spec spec in
    demand (spec_good s) 1 (counted s.max_cells (whole_up (quotient s) cell_limit))
