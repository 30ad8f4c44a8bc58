-- The difference of two stocks, committed to the first, leaves the second's cells, where that only removes. Assumes nothing.
use mathlib.Core.Path.{◌≡◌, sym, ap, ◌∙◌}
use mathlib.Core.Bool.{true}
use mathlib.Core.List.{List}
use Prim.Native.Nat.{ℕ, ◌+◌, ◌<◌}
use lib.Dec.{leb}
use lib.ListN.{length}
use lib.Ieee.{Float}
use Rattle.refusals.specs.Paper.{answers, demand, demand-true, onward-answers}
use Rattle.refusals.specs.Limits.{last_generation}
use Rattle.stock.specs.declared.TurnStockSpec.{TurnStockSpec}
use Rattle.stock.specs.declared.TurnChange.{TurnChange}
use Rattle.stock.specs.declared.TurnStock.{TurnStock}
use Rattle.stock.specs.Spec.{clean_spec}
use Rattle.stock.specs.Cell.{cell_at, cells_fit, stock_of}
use Rattle.stock.proofs.Count.{demanded, same_answer, stock-is, stocked}
use Rattle.stock.proofs.Bins.{HeldSpec, HeldList}
use Rattle.stock.proofs.Stored.{same-cells}
use Rattle.reach.proofs.Removes.{Cuts}
use Rattle.changes.specs.Change.{changes_to, settled}
use Rattle.changes.specs.Commit.{only_removes, put_all, commit_of, own_commit}
use Rattle.changes.specs.Difference.{other_cell, difference_of}
use Rattle.changes.proofs.Stocks.{stock-good}
use Rattle.changes.proofs.Stamped.{Matching, own-commit}
use Rattle.changes.proofs.Accepted.{removes-of, commit-accepts, good-bins, put-good}

-- ---- what a difference that is not refused says
module _ (spec : TurnStockSpec) (cs ds : List Float) (n room : ℕ) (l : List TurnChange) (first : stock_of spec cs ≡ answers n) (e : difference_of spec cs ds room ≡ answers l) where
  demands : demand (cells_fit (clean_spec spec) ds n) 3 (settled room (changes_to (other_cell ds) cs n)) ≡ answers l
  unfolding difference_of
  demands = simp (first, onward-answers) at e

  -- the second stock has as many cells, and they fit
  pub second-stock : stock_of spec ds ≡ answers n
  second-stock = stock-is spec ds n (stocked spec cs n first).count ∙ demand-true _ _ _ (demanded (cells_fit (clean_spec spec) ds n) 3 (settled room (changes_to (other_cell ds) cs n)) l demands).0

  -- its changes are those of the bins whose cells are unequal
  pub difference-is : l ≡ changes_to (other_cell ds) cs n
  difference-is =
      let k = (demanded (cells_fit (clean_spec spec) ds n) 3 (settled room (changes_to (other_cell ds) cs n)) l demands).1 in
      sym (same_answer (demanded (leb (length (changes_to (other_cell ds) cs n)) room) 6 (answers (changes_to (other_cell ds) cs n)) l k).1)

  -- committed as a list of the first stock it leaves the second's cells, where no bin gains material and generations last
  pub difference-own : HeldSpec spec → HeldList cs → HeldList ds → ((i : ℕ) → i < n → only_removes (cell_at cs i) (cell_at ds i) ≡ true) → (gen : ℕ) → gen < last_generation
      → own_commit spec cs gen l ≡ answers (record { cells = ds; generation = gen + 1 })
  difference-own hs hc hd r gen h =
      let a = stock-good hs hc first in
      let b = stock-good hs hd second-stock in
      let cuts : (i : ℕ) → i < n → Cuts (clean_spec spec) (cell_at cs i) (cell_at ds i) = λ i p. record { fit = b.fit i p; removes = removes-of (cell_at cs i) (cell_at ds i) (r i p) } in
      ap (own_commit spec cs gen) difference-is
      ∙ commit-accepts a (other_cell ds) cuts gen h
      ∙ ap (λ (xs : List Float). answers (record { cells = xs; generation = gen + 1 })) (same-cells n (put_all cs (changes_to (other_cell ds) cs n)) ds (put-good a (other_cell ds) cuts).long b.long (good-bins a (other_cell ds) cuts))

-- THE DIFFERENCE: with the first stock's stamp, committed to it, it leaves the second's cells, where no bin gains material and generations last
pub difference-committed : (k : TurnStock) (cs bs ds : List Float) (n room : ℕ) (l : List TurnChange) → Matching k.spec cs bs → stock_of k.spec cs ≡ answers n → difference_of k.spec cs ds room ≡ answers l → HeldSpec k.spec → HeldList cs → HeldList ds
    → ((i : ℕ) → i < n → only_removes (cell_at cs i) (cell_at ds i) ≡ true) → k.stamp.generation < last_generation → commit_of k cs bs k.stamp l ≡ answers (record { cells = ds; generation = k.stamp.generation + 1 })
difference-committed k cs bs ds n room l m first e hs hc hd r h = own-commit k cs bs l m ∙ difference-own k.spec cs ds n room l first e hs hc hd r k.stamp.generation h
