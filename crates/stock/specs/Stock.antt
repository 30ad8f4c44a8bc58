-- A stock as one value; its cells and its rings are lent beside it. Assumes nothing.
use Rattle.std.specs.Prelude.{◌≡◌, ℕ, Bool, ◌&&◌, List, length, ◌==◌, Float, Result}
use Rattle.refusals.specs.declared.Refusal.{Refusal}
use Rattle.refusals.specs.Number.{paper_of}
use Rattle.refusals.specs.Paper.{Paper, answers, refuses}
use Rattle.stock.specs.declared.TurnStockSpec.{TurnStockSpec}
use Rattle.stock.specs.declared.Stamp.{Stamp}
use Rattle.stock.specs.declared.TurnStock.{TurnStock}
use Rattle.stock.specs.Cell.{new_of, new_cells}

-- an edition and a generation
abbrev pub stamp_of : ℕ → ℕ → Stamp
stamp_of edition g = record { edition = edition; generation = g }

-- both numbers are the same
unfoldable pub same_stamp : Stamp → Stamp → Bool
same_stamp a b = a.edition == b.edition && a.generation == b.generation

-- of a spec and an edition, with so many rings, at a generation
abbrev pub stock_from : TurnStockSpec → ℕ → ℕ → ℕ → TurnStock
stock_from spec edition rings g = record { spec = spec; stamp = stamp_of edition g; rings = rings }

-- no rings, at generation 0
abbrev pub new_stock : TurnStockSpec → ℕ → TurnStock
new_stock spec edition = stock_from spec edition 0 0

-- the same stock, of the same edition, with so many rings, at a generation
abbrev pub stock_with : TurnStock → ℕ → ℕ → TurnStock
stock_with k rings g = stock_from k.spec k.stamp.edition rings g

-- the stock, where its cells are counted
abbrev pub stock_made : TurnStockSpec → ℕ → Paper ℕ → Paper TurnStock
stock_made spec edition (answers n) = answers (new_stock spec edition)
stock_made spec edition (refuses r) = refuses r

-- the answer and the lent cells of a new stock
pub record Filled (spec : TurnStockSpec) (edition : ℕ) (r : Result TurnStock Refusal) (cs cs' : List Float) : Type 0 where
  pub answer : paper_of r ≡ stock_made spec edition (new_of spec (length cs))
  pub cells : cs' ≡ new_cells spec (new_of spec (length cs)) cs
