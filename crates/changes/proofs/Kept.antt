-- The kept numbers of a commit: where it is accepted, those of the cells afterwards, though only the blocks of its bins are worked out. Assumes nothing.
use Rattle.std.specs.Prelude.{Err, Result}
use Rattle.std.proofs.Common.{IsErrAnd}
use Rattle.std.proofs.lemmas.Result.{err_from_is_err_and}
use mathlib.Core.Path.{◌≡◌, refl, sym, ap, ◌∙◌, subst}
use mathlib.Core.Bool.{Bool, true}
use mathlib.Core.List.{List, ◌++◌, ◌∷◌, [], map-append}
use Prim.Native.Nat.{ℕ, zero, suc, ◌+◌, ◌/◌, ◌≤◌, min}
use Rattle.refusals.specs.declared.Refused.{Refused}
use native.Mathlib.Omega.{arith}
use lib.ListN.{length, take, get_or}
use lib.Seq.{take-suc}
use lib.Ieee.{Float}
use Rattle.refusals.specs.Paper.{Paper, Reason, answers, refuses, demand, onward}
use Rattle.floats.specs.Pick.{pick, pick_true, pick-false}
use Rattle.stock.specs.declared.TurnStockSpec.{TurnStockSpec}
use Rattle.stock.specs.declared.TurnChange.{TurnChange}
use Rattle.stock.specs.declared.TurnStock.{TurnStock}
use Rattle.stock.specs.declared.Stamp.{Stamp}
use Rattle.stock.specs.Spec.{clean_spec}
use Rattle.stock.specs.Cell.{stock_of}
use Rattle.stock.specs.Stock.{same_stamp}
use Rattle.stock.proofs.Bins.{HeldSpec, HeldList}
use Rattle.stock.proofs.Count.{same_answer, no_answer, demanded, stock-length}
use Rattle.blocks.specs.Block.{blocks_of, matches_of}
use Rattle.blocks.specs.Renew.{renewed_for}
use Rattle.blocks.proofs.Touched.{bins_of}
use Rattle.blocks.proofs.Stocks.{commit-keeps}
use Rattle.changes.specs.declared.ChangeList.{ChangeList}
use Rattle.changes.specs.Change.{room_of, change_from, changes_from}
use Rattle.changes.specs.Commit.{put_all, Committed, commit_in, commit_held, asked_stock, apply_of, Applies, cells_after, numbers_kept, kept_after, AppliesKept}
use Rattle.changes.specs.Decide.{is_accepted, CommitsThen}
use Rattle.changes.proofs.Passed.{put-length}
use Rattle.changes.proofs.Written.{apply-is}
use Rattle.changes.proofs.Decided.{puts-in, Puts, answering, accepted-as}

-- ---- a stock that is asked and passes
pub record Asked (k : TurnStock) (cs bs : List Float) (st : Stamp) (n : ℕ) : Type 0 where
  pub stock : stock_of k.spec cs ≡ answers n
  pub own : same_stamp st k.stamp ≡ true
  pub matched : matches_of (clean_spec k.spec) n cs bs ≡ true

pub asked : (k : TurnStock) (cs bs : List Float) (st : Stamp) (n : ℕ) → asked_stock k cs bs st ≡ answers n → Asked k cs bs st n
unfolding asked_stock onward
asked k cs bs st n = go (stock_of k.spec cs) refl
  where
    go : (p : Paper ℕ) → stock_of k.spec cs ≡ p → onward p (λ m. demand (same_stamp st k.stamp) 19 (demand (matches_of (clean_spec k.spec) m cs bs) 20 (answers m))) ≡ answers n → Asked k cs bs st n
    go (answers m) e h =
        let d = demanded _ _ _ _ h in
        let f = demanded _ _ _ _ d.1 in
        let q = same_answer f.1 in
        record { stock = e ∙ ap answers q; own = d.0; matched = ap (λ (x : ℕ). matches_of (clean_spec k.spec) x cs bs) (sym q) ∙ f.0 }
    go (refuses r) e h = absurd (no_answer r n h)

-- ---- the bins of the first k changes of the lent lists
add-one : (j : ℕ) → suc j ≡ j + 1
add-one j = omega arith

pub bins-are : (is : List ℕ) (xs : List Float) (k : ℕ) → k ≤ length is → bins_of (changes_from is xs k) ≡ take k is
unfolding changes_from
bins-are is xs zero h = refl
bins-are is xs (suc j) h = map-append (λ (c : TurnChange). c.index) (changes_from is xs j) (change_from is xs j ∷ []) ∙ ap (λ (l : List ℕ). l ++ (get_or is j 0 ∷ [])) (bins-are is xs j (omega arith)) ∙ sym (take-suc is j 0 (omega arith))

-- ---- the numbers of the cells afterwards
module _ (spec : TurnStockSpec) (cs : List Float) (n : ℕ) (hs : HeldSpec spec) (hc : HeldList cs) (e : stock_of spec cs ≡ answers n) (bs : List Float) (hb : HeldList bs) (m : matches_of (clean_spec spec) n cs bs ≡ true) where
  bins-left : (l : List TurnChange) → n ≡ length (put_all cs l) / 4
  bins-left l = omega (arith, stock-length spec cs n e, put-length l cs)

  -- worked out for the bins of a list of changes, they are those of the cells with the changes
  pub renewed-all : (l : List TurnChange) (is : List ℕ) (j : ℕ) → bins_of l ≡ take j is → renewed_for (clean_spec spec) n (put_all cs l) is j bs ≡ numbers_kept spec (put_all cs l)
  renewed-all l is j q = commit-keeps spec cs n hs hc e bs hb m l is j q ∙ ap (λ (x : ℕ). blocks_of (clean_spec spec) x (put_all cs l)) (bins-left l)

-- worked out where a commit is accepted
pub then-renewed : (k : TurnStock) (n : ℕ) (p : Paper Committed) (r : Result TurnStock Refused) (cs cs' bs bs' : List Float) (is : List ℕ) (j : ℕ) (s : TurnStockSpec) → Applies k p r cs cs' → bs' ≡ renewed_for s n cs' is j bs → s ≡ clean_spec k.spec → is_accepted r ≡ true
    → CommitsThen k n p r cs cs' bs bs' is j
then-renewed k n p r cs cs' bs bs' is j s a e q y = record { left = a; kept = e ∙ ap (λ (x : TurnStockSpec). renewed_for x n cs' is j bs) q ∙ sym (pick_true _ _ _ y) }

-- left where it is refused, and the refusal handed on
pub then-left : (k : TurnStock) (n : ℕ) (p : Paper Committed) (r : Result TurnStock Refused) (e : Refused) (cs cs' bs : List Float) (is : List ℕ) (j : ℕ) → IsErrAnd r (λ y. y ≡ e) → Applies k p (Err e) cs cs' → CommitsThen k n p r cs cs' bs bs is j
then-left k n p r e cs cs' bs is j h a =
    let q = err_from_is_err_and r h in
    subst (λ (x : Result TurnStock Refused). CommitsThen k n p x cs cs' bs bs is j) (sym (q.1 ∙ ap Err q.2)) (record { left = a; kept = sym (pick-false _ _ _ refl) })

-- a refused commit leaves them
pub kept-refused : (k : TurnStock) (p : Paper Committed) (r : Result TurnStock Refused) (cs bs : List Float) (x : Reason) → p ≡ refuses x → Applies k p r cs cs → AppliesKept k p r cs cs bs bs
kept-refused k p r cs bs x e a = record { left = a; kept = sym (ap (λ (q : Paper Committed). kept_after k q bs) e) }

-- by the answer of a commit that puts its changes
module _ (k : TurnStock) (cs bs : List Float) (l : List TurnChange) (gen : ℕ) (p : Paper Committed) (puts : Puts cs gen l p) (fresh : List Float) (all : answering p ≡ true → fresh ≡ numbers_kept k.spec (put_all cs l)) where
  by_answer : (q : Paper Committed) → p ≡ q → pick (answering p) fresh bs ≡ kept_after k p bs
  by_answer (answers c) e =
      let y : answering p ≡ true = ap answering e in
      let cells : c.cells ≡ put_all cs l = sym (ap (λ (q : Paper Committed). cells_after q cs) e) ∙ puts y in
      pick_true _ _ _ y ∙ all y ∙ ap (numbers_kept k.spec) (sym cells) ∙ sym (ap (λ (q : Paper Committed). kept_after k q bs) e)
  by_answer (refuses r) e = pick-false _ _ _ (ap answering e) ∙ sym (ap (λ (q : Paper Committed). kept_after k q bs) e)

  pub kept_by : (r : Result TurnStock Refused) (cs' bs' : List Float) → Applies k p r cs cs' → bs' ≡ pick (is_accepted r) fresh bs → AppliesKept k p r cs cs' bs bs'
  kept_by r cs' bs' a q = record { left = a; kept = q ∙ ap (λ (t : Bool). pick t fresh bs) (accepted-as k p cs r a.answer) ∙ by_answer p refl }

-- the commit of lent lists that a stock was asked for
pub apply-keeps : (k : TurnStock) (cs bs : List Float) (list : ChangeList) (is : List ℕ) (xs : List Float) (n : ℕ) → HeldSpec k.spec → HeldList cs → HeldList bs → asked_stock k cs bs list.stamp ≡ answers n
    → list.count ≤ room_of (length is) (length xs) → (r : Result TurnStock Refused) (cs' bs' : List Float) → CommitsThen k n (commit_held (clean_spec k.spec) n cs k.stamp.generation is xs list.count) r cs cs' bs bs' is list.count
    → AppliesKept k (apply_of k cs bs list is xs) r cs cs' bs bs'
apply-keeps k cs bs list is xs n hs hc hb e h r cs' bs' a =
    let l = changes_from is xs list.count in
    let f = asked k cs bs list.stamp n e in
    let held : min list.count (room_of (length is) (length xs)) ≡ list.count = omega arith in
    let rule = apply-is k cs bs list is xs n e h in
    let puts : Puts cs k.stamp.generation l (commit_in (clean_spec k.spec) n cs k.stamp.generation l) = puts-in cs k.stamp.generation l (clean_spec k.spec) n in
    let left : Applies k (commit_in (clean_spec k.spec) n cs k.stamp.generation l) r cs cs' = subst (λ (j : ℕ). Applies k (commit_in (clean_spec k.spec) n cs k.stamp.generation (changes_from is xs j)) r cs cs') held a.left in
    subst (λ (p : Paper Committed). AppliesKept k p r cs cs' bs bs') (sym rule)
    (kept_by k cs bs l k.stamp.generation (commit_in (clean_spec k.spec) n cs k.stamp.generation l) puts (renewed_for (clean_spec k.spec) n cs' is list.count bs)
    (λ y. ap (λ (x : List Float). renewed_for (clean_spec k.spec) n x is list.count bs) (left.cells ∙ puts y) ∙ renewed-all k.spec cs n hs hc f.stock bs hb f.matched l is list.count (bins-are is xs list.count (omega arith)))
    r cs' bs' left a.kept)
