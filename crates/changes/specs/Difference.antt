-- What differs between two stocks of one spec. Assumes nothing.
use Rattle.std.specs.Prelude.{List, ℕ, Float}
use Rattle.refusals.specs.Paper.{Paper, demand, onward}
use Rattle.stock.specs.declared.TurnStockSpec.{TurnStockSpec}
use Rattle.stock.specs.declared.TurnCell.{TurnCell}
use Rattle.stock.specs.declared.TurnChange.{TurnChange}
use Rattle.stock.specs.Spec.{clean_spec}
use Rattle.stock.specs.Cell.{cell_at, cells_fit, stock_of}
use Rattle.changes.specs.Change.{changes_to, settled}

-- the cell of bin i becomes the other stock's
abbrev pub other_cell : List Float → ℕ → TurnCell → TurnCell
other_cell ds i c = cell_at ds i

-- the bins whose cells are unequal; 1, 2, 3 of either list, 6
unfoldable pub difference_of : TurnStockSpec → List Float → List Float → ℕ → Paper (List TurnChange)
difference_of spec cs ds room =
    onward (stock_of spec cs) (λ n.
    demand (cells_fit (clean_spec spec) ds n) 3
    (settled room (changes_to (other_cell ds) cs n)))
