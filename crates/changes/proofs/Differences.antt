-- The difference of two stocks, by what their checks say. Assumes nothing.
use mathlib.Core.Path.{◌≡◌, sym, ap, ◌∙◌}
use mathlib.Core.Bool.{Bool, true, false}
use mathlib.Core.List.{List}
use Prim.Native.Nat.{ℕ, ◌*◌, ◌≤◌}
use native.Mathlib.Omega.{arith}
use lib.ListN.{length}
use lib.Ieee.{Float}
use Rattle.refusals.specs.Paper.{Paper, Reason, answers, refuses, only, demand, papers}
use Rattle.stock.specs.declared.TurnStockSpec.{TurnStockSpec}
use Rattle.stock.specs.Spec.{clean_spec}
use Rattle.stock.specs.Cell.{cells_fit, stock_of}
use Rattle.stock.proofs.Count.{stock-is, stock-length, stocked, demanded, no_answer, same_answer}
use Rattle.changes.specs.Change.{changes_to, settled}
use Rattle.changes.specs.Difference.{other_cell, difference_of}

three : {r : Reason} → ◌≡◌ {A = Paper ℕ} (refuses (only 3)) (refuses r) → only 3 ≡ r
three q = cc

-- both lists hold the cells of the spec
pub both-held : (spec : TurnStockSpec) (cs ds : List Float) (n m : ℕ) → stock_of spec cs ≡ answers n → stock_of spec ds ≡ answers m → (4 * n ≤ length cs) × (4 * n ≤ length ds)
both-held spec cs ds n m e h =
    let a = stock-length spec cs n e in
    let b = stock-length spec ds m h in
    let q : n ≡ m = same_answer (sym (stocked spec cs n e).count ∙ (stocked spec ds m h).count) in
    (omega (arith, a), omega (arith, b, q))

module _ (spec : TurnStockSpec) (cs ds : List Float) (room : ℕ) where
  pub differ-refused : (r : Reason) → stock_of spec cs ≡ refuses r → difference_of spec cs ds room ≡ refuses r
  unfolding difference_of
  differ-refused r e = simp (papers, e)

  -- what the second check is, once the first has passed
  other-is : (n : ℕ) → stock_of spec cs ≡ answers n → stock_of spec ds ≡ demand (cells_fit (clean_spec spec) ds n) 3 (answers n)
  other-is n e = stock-is spec ds n (stocked spec cs n e).count

  pub differ-other : (n : ℕ) (r : Reason) → stock_of spec cs ≡ answers n → stock_of spec ds ≡ refuses r → difference_of spec cs ds room ≡ refuses r
  unfolding difference_of demand
  differ-other n r e h = simp (papers, e) (go (cells_fit (clean_spec spec) ds n) (sym (other-is n e) ∙ h))
    where
      go : (t : Bool) → demand t 3 (answers n) ≡ refuses r → demand t 3 (settled room (changes_to (other_cell ds) cs n)) ≡ refuses r
      go true k = absurd (no_answer r n (sym k))
      go false k = let z : only 3 ≡ r = three k in ap refuses z

  pub differ-is : (n m : ℕ) → stock_of spec cs ≡ answers n → stock_of spec ds ≡ answers m → difference_of spec cs ds room ≡ settled room (changes_to (other_cell ds) cs n)
  unfolding difference_of
  differ-is n m e h = simp (papers, e, (demanded (cells_fit (clean_spec spec) ds n) 3 (answers n) m (sym (other-is n e) ∙ h)).0)
