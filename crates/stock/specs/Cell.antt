-- The cells of a stock, four numbers each, and when they fit it. Assumes nothing.
use Rattle.std.specs.Prelude.{ℕ, zero, suc, ◌+◌, ◌*◌, ◌/◌, Bool, true, not, ◌&&◌, List, [], ◌∷◌, ◌++◌, length, ◌==◌, nat_lt, slice_index_or, Float}
use Rattle.std.proofs.lemmas.List.Edits.{sets}
use Rattle.std.specs.Float.{nan}
use Rattle.std.specs.Float.Ieee.{le, eq}
use Rattle.refusals.specs.Paper.{Paper, answers, refuses, demand, onward}
use Rattle.floats.specs.Pick.{pick}
use Rattle.floats.specs.Numbers.{minus_zero}
use Rattle.stock.specs.declared.TurnStockSpec.{TurnStockSpec}
use Rattle.stock.specs.declared.RadiusBounds.{RadiusBounds}
use Rattle.stock.specs.declared.TurnCell.{TurnCell}
use Rattle.stock.specs.Spec.{clean_spec, cells_of}

-- ---- reading

-- a number of a list, and no number past its end
abbrev pub number_at : List Float → ℕ → Float
number_at xs k = slice_index_or xs k nan

-- the cell whose four numbers start at a place: outer lower, outer upper, inner lower, inner upper
abbrev pub cell_from : List Float → ℕ → TurnCell
cell_from xs at =
    record {
      outer = record { lower_mm = number_at xs at; upper_mm = number_at xs (at + 1) };
      inner = record { lower_mm = number_at xs (at + 2); upper_mm = number_at xs (at + 3) };
    }

-- the cell of bin i
abbrev pub cell_at : List Float → ℕ → TurnCell
cell_at cs i = cell_from cs (4 * i)

-- past the end of a list
abbrev pub cell_of_none : TurnCell
cell_of_none = record { outer = record { lower_mm = nan; upper_mm = nan }; inner = record { lower_mm = nan; upper_mm = nan } }

-- ---- writing

abbrev pub four_of : TurnCell → List Float
four_of c = c.outer.lower_mm ∷ c.outer.upper_mm ∷ c.inner.lower_mm ∷ c.inner.upper_mm ∷ []

-- a list with c as the cell of bin i, if it has that bin, and as it was if it has not
unfoldable pub put_cell : List Float → ℕ → TurnCell → List Float
put_cell xs i c = pick (nat_lt i (length xs / 4)) (sets xs (4 * i) (four_of c)) xs

-- ---- when cells fit

-- within bore..outer, lower <= upper, neither -0.0
abbrev pub pair_fits_in : TurnStockSpec → RadiusBounds → Bool
pair_fits_in s b =
    le s.bore_radius_mm b.lower_mm && le b.lower_mm b.upper_mm && le b.upper_mm s.outer_radius_mm
    && not (minus_zero b.lower_mm) && not (minus_zero b.upper_mm)

-- the comparisons of both pairs
unfoldable pub between : TurnStockSpec → TurnCell → Bool
between s c =
    le s.bore_radius_mm c.outer.lower_mm && le c.outer.lower_mm c.outer.upper_mm && le c.outer.upper_mm s.outer_radius_mm
    && le s.bore_radius_mm c.inner.lower_mm && le c.inner.lower_mm c.inner.upper_mm && le c.inner.upper_mm s.outer_radius_mm

-- Both pairs fit. In a spec that is not refused bore and outer radius are finite, and so then are the four bounds (`cell-finite` of `demands`); a spec of infinities lets infinities fit.
unfoldable pub cell_fits : TurnStockSpec → TurnCell → Bool
cell_fits s c = pair_fits_in s c.outer && pair_fits_in s c.inner

-- the first n cells fit
unfoldable pub fit_to : TurnStockSpec → List Float → ℕ → Bool
fit_to s cs zero = true
fit_to s cs (suc i) = fit_to s cs i && cell_fits s (cell_at cs i)

-- exactly n cells, each of which fits
unfoldable pub cells_fit : TurnStockSpec → List Float → ℕ → Bool
cells_fit s cs n = length cs == 4 * n && fit_to s cs n

-- the number of cells of a stock; 1, 2, 3
unfoldable pub stock_of : TurnStockSpec → List Float → Paper ℕ
stock_of spec cs = onward (cells_of spec) (λ n. demand (cells_fit (clean_spec spec) cs n) 3 (answers n))

-- the four bounds are the same numbers
abbrev pub same_cell : TurnCell → TurnCell → Bool
same_cell a b =
    eq a.outer.lower_mm b.outer.lower_mm && eq a.outer.upper_mm b.outer.upper_mm
    && eq a.inner.lower_mm b.inner.lower_mm && eq a.inner.upper_mm b.inner.upper_mm

-- ---- a new stock

-- at outer and bore
abbrev pub fresh_cell : TurnStockSpec → TurnCell
fresh_cell s =
    record {
      outer = record { lower_mm = s.outer_radius_mm; upper_mm = s.outer_radius_mm };
      inner = record { lower_mm = s.bore_radius_mm; upper_mm = s.bore_radius_mm };
    }

-- n times the same cell
unfoldable pub cells_like : TurnCell → ℕ → List Float
cells_like c zero = []
cells_like c (suc n) = cells_like c n ++ four_of c

-- the number of cells that so many lent numbers are to hold; 1, 2, 3
unfoldable pub new_of : TurnStockSpec → ℕ → Paper ℕ
new_of spec len = onward (cells_of spec) (λ n. demand (len == 4 * n) 3 (answers n))

-- the lent numbers afterwards: fresh cells, or as they were
abbrev pub new_cells : TurnStockSpec → Paper ℕ → List Float → List Float
new_cells spec (answers n) cs = cells_like (fresh_cell (clean_spec spec)) n
new_cells spec (refuses r) cs = cs
