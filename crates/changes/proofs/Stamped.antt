-- A list and the stock that it is of: with the stock's own stamp 19 does not arise, with its own kept numbers 20 does not, and with another stamp a commit is always refused. Assumes nothing.
use mathlib.Core.Path.{◌≡◌, refl, ap, ◌∙◌}
use mathlib.Core.Bool.{Bool, true, false}
use mathlib.Core.List.{List}
use Prim.Native.Nat.{ℕ}
use lib.Dec.{leb}
use lib.ListN.{length}
use lib.Ieee.{Float}
use Rattle.refusals.specs.Paper.{Paper, Reason, answers, refuses, only, demand, onward, demand-true}
use Rattle.stock.specs.declared.TurnStockSpec.{TurnStockSpec}
use Rattle.stock.specs.declared.TurnChange.{TurnChange}
use Rattle.stock.specs.declared.Stamp.{Stamp}
use Rattle.stock.specs.declared.TurnStock.{TurnStock}
use Rattle.stock.specs.Spec.{clean_spec}
use Rattle.stock.specs.Cell.{stock_of}
use Rattle.stock.specs.Stock.{same_stamp}
use Rattle.stock.proofs.Stamps.{own-stamp}
use Rattle.blocks.specs.Block.{matches_of}
use Rattle.changes.specs.declared.ChangeList.{ChangeList}
use Rattle.changes.specs.Change.{room_of, changes_from}
use Rattle.changes.specs.Commit.{Committed, commit_in, asked_stock, commit_of, apply_of, own_commit}

-- ---- the stock's own list

-- numbers that match the cells of a stock, of however many cells
abbrev pub Matching : TurnStockSpec → List Float → List Float → Type 0
Matching spec cs bs = (n : ℕ) → stock_of spec cs ≡ answers n → matches_of (clean_spec spec) n cs bs ≡ true

-- with them a stock that is asked for its own list is asked for its cells alone
pub own-asked : (k : TurnStock) (cs bs : List Float) → Matching k.spec cs bs → asked_stock k cs bs k.stamp ≡ stock_of k.spec cs
unfolding asked_stock onward
own-asked k cs bs m = go (stock_of k.spec cs) refl
  where
    go : (p : Paper ℕ) → stock_of k.spec cs ≡ p → onward p (λ n. demand (same_stamp k.stamp k.stamp) 19 (demand (matches_of (clean_spec k.spec) n cs bs) 20 (answers n))) ≡ p
    go (answers n) e = demand-true _ _ _ (own-stamp k.stamp) ∙ demand-true _ _ _ (m n e)
    go (refuses r) e = refl

pub own-commit : (k : TurnStock) (cs bs : List Float) (l : List TurnChange) → Matching k.spec cs bs → commit_of k cs bs k.stamp l ≡ own_commit k.spec cs k.stamp.generation l
unfolding commit_of own_commit
own-commit k cs bs l m = ap (λ (p : Paper ℕ). onward p (λ n. commit_in (clean_spec k.spec) n cs k.stamp.generation l)) (own-asked k cs bs m)

-- ---- another stamp

-- 19, once the stock is asked
abbrev nineteen : ℕ → Paper Committed
nineteen n = refuses (only 19)

-- what is asked of the stock first refuses, or 19 does
pub record Stale (k : TurnStock) (cs : List Float) (p : Paper Committed) : Type 0 where
  pub reason : Reason
  pub refused : p ≡ refuses reason
  pub number : onward (stock_of k.spec cs) nineteen ≡ refuses reason

pub stale-asked : (k : TurnStock) (cs bs : List Float) (st : Stamp) → same_stamp st k.stamp ≡ false → (f : ℕ → Paper Committed) → Stale k cs (onward (asked_stock k cs bs st) f)
unfolding asked_stock onward demand
stale-asked k cs bs st e f = go (stock_of k.spec cs) refl
  where
    at : (p : Paper ℕ) (t : Bool) → Paper Committed
    at p t = onward (onward p (λ n. demand t 19 (demand (matches_of (clean_spec k.spec) n cs bs) 20 (answers n)))) f

    go : (p : Paper ℕ) → stock_of k.spec cs ≡ p → Stale k cs (at (stock_of k.spec cs) (same_stamp st k.stamp))
    go (answers n) q = record { reason = only 19; refused = (λ i. at (q i) (e i)); number = ap (λ (x : Paper ℕ). onward x nineteen) q }
    go (refuses r) q = record { reason = r; refused = (λ i. at (q i) (e i)); number = ap (λ (x : Paper ℕ). onward x nineteen) q }

pub stale-commit : (k : TurnStock) (cs bs : List Float) (st : Stamp) (l : List TurnChange) → same_stamp st k.stamp ≡ false → Stale k cs (commit_of k cs bs st l)
unfolding commit_of
stale-commit k cs bs st l e = stale-asked k cs bs st e (λ n. commit_in (clean_spec k.spec) n cs k.stamp.generation l)

pub stale-apply : (k : TurnStock) (cs bs : List Float) (list : ChangeList) (is : List ℕ) (xs : List Float) → same_stamp list.stamp k.stamp ≡ false → Stale k cs (apply_of k cs bs list is xs)
unfolding apply_of
stale-apply k cs bs list is xs e = stale-asked k cs bs list.stamp e (λ n. demand (leb list.count (room_of (length is) (length xs))) 6 (commit_in (clean_spec k.spec) n cs k.stamp.generation (changes_from is xs list.count)))
