-- `change_slices::propose` meets its contract. Assumes nothing.
use Rattle.std.proofs.Common.{◌≡◌, ℕ, ◌*◌, List, length, replicate, subst, Result}
use lib.ListN.{length-replicate}
use lib.Ieee.{Float}
use Rattle.refusals.specs.declared.Refusal.{Refusal}
use Rattle.refusals.specs.Limits.{cell_limit}
use Rattle.floats.specs.Numbers.{zero64}
use Rattle.stock.specs.declared.TurnStockSpec.{TurnStockSpec}
use Rattle.stock.specs.declared.TurnChange.{TurnChange}
use Rattle.stock.specs.declared.Stamp.{Stamp}
use Rattle.changes.specs.declared.ChangeList.{ChangeList}
use Rattle.changes.specs.Change.{room_of}
use Rattle.cuts.specs.declared.Tool.{Tool}
use Rattle.cuts.specs.Tool.{preview_tool}
use Rattle.change_slices.specs.Read.{Reads}
use Rattle.change_slices.specs.Proposal.{Written, count_in, narrowed, ListsRecords}
use Rattle.change_slices.proofs.Rooms.{lists-enough-for, records-hold}
use Rattle.change_slices.proofs.propose.Goals as goal

-- what is listed in flat lists with room for every cell, and read from there
read_listed : (st : Stamp) (spec : TurnStockSpec) (cs : List Float) (t : Tool) (ys : List Float) (is₀ is : List ℕ) (xs₀ xs : List Float) (r : Result ChangeList Refusal) (k j : ℕ) (l l' : List TurnChange)
    → length is₀ ≡ cell_limit → length xs₀ ≡ 8 * cell_limit
    → ListsRecords st (length l) (narrowed (length l) (preview_tool spec cs t ys (room_of (length is₀) (length xs₀)))) r is xs
    → k ≡ count_in r → Reads is xs k j l l' → Written st (preview_tool spec cs t ys (length l)) r l l'
read_listed st spec cs t ys is₀ is xs₀ xs r k j l l' long wide w e d =
    records-hold st _ _ r is xs j l l' (lists-enough-for spec cs t ys (length is₀) (length xs₀) long wide (length l)) w (subst (λ (i : ℕ). Reads is xs i j l l') e d)

pub returns : goal.returns
returns c = let a = c.args in
    read_listed a.stock.stamp a.stock.spec a.cells.now a.tool a.beside.now (replicate 16384 0) c.list-answer.new.indices (replicate 131072 zero64) c.list-answer.new.records _ _ _ a.changes.now _ (length-replicate {A = ℕ} 16384 0) (length-replicate 131072 zero64) c.list-answer.ensures c.count_of-k.ensures c.read_changes.ensures
