-- A commit of two lent lists after a proposal wrote them is a commit of the changes that it proposed. So what is proposed is accepted, while generations last. Assumes nothing.
use Rattle.std.specs.Prelude.{Ok}
use mathlib.Core.Path.{◌≡◌, refl, sym, ap, ◌∙◌}
use mathlib.Core.Bool.{Bool, true, false}
use mathlib.Core.List.{List}
use Prim.Native.Nat.{ℕ, ◌+◌, ◌≤◌, ◌<◌, min}
use native.Mathlib.Omega.{arith}
use borrow.Author.Tests.{leb-true, le-leb}
use lib.Dec.{leb}
use lib.ListN.{length, length-map}
use lib.Ieee.{Float}
use Rattle.refusals.specs.Paper.{Paper, answers, refuses, only, demand, onward, demand-true}
use Rattle.refusals.specs.Limits.{last_generation}
use Rattle.refusals.specs.Lent.{over}
use Rattle.refusals.proofs.Written.{length_over}
use Rattle.stock.specs.declared.TurnStockSpec.{TurnStockSpec}
use Rattle.stock.specs.declared.TurnCell.{TurnCell}
use Rattle.stock.specs.declared.TurnChange.{TurnChange}
use Rattle.stock.specs.Spec.{clean_spec}
use Rattle.stock.specs.Cell.{cell_at, stock_of}
use Rattle.stock.proofs.Count.{no_answer, same_answer}
use Rattle.reach.specs.Reach.{Act, act_cell}
use Rattle.reach.specs.Kinds.{PlainAct}
use Rattle.reach.proofs.Removes.{Cuts, cut-cuts}
use Rattle.stock.specs.declared.Stamp.{Stamp}
use Rattle.stock.specs.declared.TurnStock.{TurnStock}
use Rattle.changes.specs.declared.ChangeList.{ChangeList}
use Rattle.changes.specs.Change.{changes_from, changes_to, indices_of, numbers_of, room_of, settled, Tallied, Proposed}
use Rattle.changes.proofs.Placed.{length-numbers}
use Rattle.changes.proofs.ReadBack.{read_back}
use Rattle.changes.specs.Commit.{Committed, put_all, commit_in, commit_held, own_commit, apply_of}
use Rattle.changes.proofs.Proposals.{of-stock}
use Rattle.changes.proofs.Stamped.{Matching, own-asked}
use Rattle.changes.proofs.Stocks.{Good}
use Rattle.changes.proofs.Accepted.{commit-accepts}

-- ---- the lists after a proposal

-- there was room for the changes, and they are over the front of the lists
pub record Wrote (l : List TurnChange) (k : ℕ) (is is' : List ℕ) (xs xs' : List Float) : Type 0 where
  pub count : k ≡ length l
  pub room : length l ≤ room_of (length is) (length xs)
  pub indices : is' ≡ over (indices_of l) is
  pub numbers : xs' ≡ over (numbers_of l) xs

-- so it is of a proposal that answered with a count
pub wrote : (l : List TurnChange) (k : ℕ) (is is' : List ℕ) (xs xs' : List Float) → Tallied (settled (room_of (length is) (length xs)) l) (Ok k) is is' xs xs' → Wrote l k is is' xs xs'
unfolding demand
wrote l k is is' xs xs' p = go (leb (length l) (room_of (length is) (length xs))) refl p
  where
    go : (t : Bool) → leb (length l) (room_of (length is) (length xs)) ≡ t → Tallied (demand t 6 (answers l)) (Ok k) is is' xs xs' → Wrote l k is is' xs xs'
    go true e q = record { count = same_answer q.answer; room = leb-true (length l) (room_of (length is) (length xs)) e; indices = q.indices; numbers = q.numbers }
    go false e q = absurd (no_answer (only 6) k (sym q.answer))

-- the lists keep their lengths, and so their room
pub room-kept : (l : List TurnChange) (is : List ℕ) (xs : List Float) → length l ≤ room_of (length is) (length xs) → length l ≤ room_of (length (over (indices_of l) is)) (length (over (numbers_of l) xs))
room-kept l is xs h =
    let a = length-map l (λ (c : TurnChange). c.index) in
    let b = length-numbers l in
    let i = length_over (indices_of l) is (omega arith) in
    let x = length_over (numbers_of l) xs (omega arith) in
    omega arith

-- the changes that the lists hold are those that were proposed, so that a commit which asks nothing again is a commit of these
pub held-is : (st : Stamp) (list : ChangeList) (l : List TurnChange) (is is' : List ℕ) (xs xs' : List Float) → Proposed st (settled (room_of (length is) (length xs)) l) (Ok list) is is' xs xs' → (s : TurnStockSpec) (n : ℕ) (cs : List Float) (gen : ℕ)
    → commit_held s n cs gen is' xs' list.count ≡ commit_in s n cs gen l
held-is st list l is is' xs xs' p s n cs gen =
    let o = of-stock st (settled (room_of (length is) (length xs)) l) list is is' xs xs' p in
    let w = wrote l list.count is is' xs xs' o.tally in
    let h = room-kept l is xs w.room in
    let e : min (length l) (room_of (length (over (indices_of l) is)) (length (over (numbers_of l) xs))) ≡ length l = omega arith in
    rw (w.count, w.indices, w.numbers) (ap (λ (j : ℕ). commit_in s n cs gen (changes_from (over (indices_of l) is) (over (numbers_of l) xs) j)) e ∙ ap (commit_in s n cs gen) (read_back l is xs))

-- a test that holds behind a stock is passed
passed-by : {A : Type 0} (p : Paper ℕ) (t : Bool) (m : ℕ) (f : ℕ → Paper A) → t ≡ true → onward p (λ n. demand t m (f n)) ≡ onward p f
unfolding onward
passed-by (answers n) t m f e = demand-true t m (f n) e
passed-by (refuses r) t m f e = refl

-- a commit of the list that was answered is a commit of the changes that were proposed into the lent lists, refused or accepted
pub lent_is : (k : TurnStock) (cs bs : List Float) → Matching k.spec cs bs → (list : ChangeList) (l : List TurnChange) (is is' : List ℕ) (xs xs' : List Float) → Proposed k.stamp (settled (room_of (length is) (length xs)) l) (Ok list) is is' xs xs'
    → apply_of k cs bs list is' xs' ≡ own_commit k.spec cs k.stamp.generation l
unfolding apply_of own_commit
lent_is k cs bs m list l is is' xs xs' p =
    let o = of-stock k.stamp (settled (room_of (length is) (length xs)) l) list is is' xs xs' p in
    let w = wrote l list.count is is' xs xs' o.tally in
    let e = le-leb (length l) (room_of (length (over (indices_of l) is)) (length (over (numbers_of l) xs))) (room-kept l is xs w.room) in
    let commit : ℕ → Paper Committed = λ (n : ℕ). commit_in (clean_spec k.spec) n cs k.stamp.generation l in
    rw (o.stamp, w.count, w.indices, w.numbers, e, read_back l is xs)
    (ap (λ (q : Paper ℕ). onward q (λ n. demand true 6 (commit n))) (own-asked k cs bs m) ∙ passed-by (stock_of k.spec cs) true 6 commit refl)

-- so, on a stock that is not refused, changes to cells that fit, none of which adds material, are accepted from the lists too, while generations last
pub lent-accepts : (k : TurnStock) {n : ℕ} {cs : List Float} (bs : List Float) → Matching k.spec cs bs → (g : Good k.spec n cs) (f : ℕ → TurnCell → TurnCell) → ((i : ℕ) → i < n → Cuts (clean_spec k.spec) (cell_at cs i) (f i (cell_at cs i)))
    → (list : ChangeList) (is is' : List ℕ) (xs xs' : List Float) → k.stamp.generation < last_generation → Proposed k.stamp (settled (room_of (length is) (length xs)) (changes_to f cs n)) (Ok list) is is' xs xs'
    → apply_of k cs bs list is' xs' ≡ answers (record { cells = put_all cs (changes_to f cs n); generation = k.stamp.generation + 1 })
lent-accepts k {n} {cs} bs m g f cuts list is is' xs xs' h p = lent_is k cs bs m list (changes_to f cs n) is is' xs xs' p ∙ commit-accepts g f cuts k.stamp.generation h

-- ---- a cut whose numbers are plain leaves cells that fit and adds nothing
-- over each cell of the stock
pub act-cuts : {spec : TurnStockSpec} {n : ℕ} {cs : List Float} → Good spec n cs → (a : Act) → PlainAct n a → (i : ℕ) → i < n → Cuts (clean_spec spec) (cell_at cs i) (act_cell a i (cell_at cs i))
act-cuts {spec} {n} {cs} g a p i h = cut-cuts (clean_spec spec) a.side (cell_at cs i) (a.at i) (g.fit i h) (p i h)
