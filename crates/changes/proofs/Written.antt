-- What a commit answers and leaves, by what its rule says. Assumes nothing.
use Rattle.std.specs.Prelude.{Err, Result}
use mathlib.Core.Path.{◌≡◌, refl, sym, ap}
use mathlib.Core.Bool.{true, false}
use mathlib.Core.List.{List}
use Prim.Native.Nat.{ℕ, ◌≤◌, ◌<◌, min}
use Rattle.refusals.specs.declared.Refused.{Refused}
use native.Mathlib.Omega.{arith}
use borrow.Author.Tests.{le-leb, lt-leb}
use lib.ListN.{length}
use lib.Ieee.{Float}
use Rattle.refusals.specs.declared.Refusal.{Refusal}
use Rattle.refusals.specs.Number.{reason_of, refused_of, placed_of}
use Rattle.refusals.specs.Paper.{Paper, Reason, answers, refuses, only, papers}
use Rattle.stock.specs.declared.TurnStockSpec.{TurnStockSpec}
use Rattle.stock.specs.declared.TurnStock.{TurnStock}
use Rattle.stock.specs.declared.Stamp.{Stamp}
use Rattle.stock.specs.Spec.{clean_spec}
use Rattle.stock.specs.Cell.{stock_of}
use Rattle.stock.specs.Stock.{same_stamp}
use Rattle.blocks.specs.Block.{matches_of}
use Rattle.changes.specs.declared.ChangeList.{ChangeList}
use Rattle.changes.specs.Change.{room_of, changes_from}
use Rattle.changes.specs.Commit.{pass_all, first_refusal, put_all, put_held, Committed, commit_in, asked_stock, apply_of, Applies}

-- ---- of k changes that the lists hold
module _ (is : List ℕ) (xs : List Float) (k : ℕ) (h : k ≤ room_of (length is) (length xs)) where
  all_held : min k (room_of (length is) (length xs)) ≡ k
  all_held = omega arith

  pub refusal-held : (s : TurnStockSpec) (n : ℕ) (cs : List Float) → pass_all s n cs (changes_from is xs k) ≡ first_refusal s n cs is xs k
  refusal-held s n cs = ap (λ (j : ℕ). pass_all s n cs (changes_from is xs j)) (sym all_held)

  pub put-held : (cs : List Float) → put_held cs is xs k ≡ put_all cs (changes_from is xs k)
  put-held cs = ap (λ (j : ℕ). put_all cs (changes_from is xs j)) all_held

-- ---- a stock that is asked
module _ (k : TurnStock) (cs bs : List Float) (st : Stamp) where
  pub asked-refused : (r : Reason) → stock_of k.spec cs ≡ refuses r → asked_stock k cs bs st ≡ refuses r
  unfolding asked_stock
  asked-refused r e = simp (papers, e)

  module _ (n : ℕ) (e : stock_of k.spec cs ≡ answers n) where
    pub asked-stale : same_stamp st k.stamp ≡ false → asked_stock k cs bs st ≡ refuses (only 19)
    unfolding asked_stock
    asked-stale t = simp (papers, e, t)

    pub asked-unmatched : same_stamp st k.stamp ≡ true → matches_of (clean_spec k.spec) n cs bs ≡ false → asked_stock k cs bs st ≡ refuses (only 20)
    unfolding asked_stock
    asked-unmatched t m = simp (papers, e, t, m)

    pub asked_is : same_stamp st k.stamp ≡ true → matches_of (clean_spec k.spec) n cs bs ≡ true → asked_stock k cs bs st ≡ answers n
    unfolding asked_stock
    asked_is t m = simp (papers, e, t, m)

-- ---- the rule of a commit of the lent lists
module _ (k : TurnStock) (cs bs : List Float) (list : ChangeList) (is : List ℕ) (xs : List Float) where
  pub apply-refused : (r : Reason) → asked_stock k cs bs list.stamp ≡ refuses r → apply_of k cs bs list is xs ≡ refuses r
  unfolding apply_of
  apply-refused r e = simp (papers, e)

  pub apply-short : (n : ℕ) → asked_stock k cs bs list.stamp ≡ answers n → room_of (length is) (length xs) < list.count → apply_of k cs bs list is xs ≡ refuses (only 6)
  unfolding apply_of
  apply-short n e h = simp (papers, e, lt-leb list.count (room_of (length is) (length xs)) h)

  pub apply-is : (n : ℕ) → asked_stock k cs bs list.stamp ≡ answers n → list.count ≤ room_of (length is) (length xs) → apply_of k cs bs list is xs ≡ commit_in (clean_spec k.spec) n cs k.stamp.generation (changes_from is xs list.count)
  unfolding apply_of
  apply-is n e h = simp (papers, e, le-leb list.count (room_of (length is) (length xs)) h)

-- ---- what is answered and left

-- refused: the cells stay
pub left : (k : TurnStock) (p : Paper Committed) (r : Refusal) (cs : List Float) → p ≡ refuses (reason_of r) → Applies k p (Err (refused_of r)) cs cs
left k p r cs e = rw e (record { answer = refl; cells = refl })

-- the same of a refusal that another call handed on
pub left_at : (k : TurnStock) (p : Paper Committed) (r : Result TurnStock Refused) (x : Reason) (cs : List Float) → placed_of r ≡ refuses x → p ≡ refuses x → Applies k p r cs cs
left_at k p r x cs a e = rw e (record { answer = a; cells = refl })

-- a rule that comes to another has its outcome
pub same_outcome : (k : TurnStock) (p q : Paper Committed) (r : Result TurnStock Refused) (cs cs' : List Float) → p ≡ q → Applies k q r cs cs' → Applies k p r cs cs'
same_outcome k p q r cs cs' e a = rw e a
