-- A list and the stock that it is of (Req 08): with another stamp it is always refused (`stale-apply`, `stale-commit`, `stale-move`, `stale-records`); generations only rise and the edition is kept
-- (`history-later`), so that a list whose stock has gone on is refused ever after (`never-again`), until a rebuild. Assumes nothing.
use Rattle.std.specs.Prelude.{Ok, Result}
use mathlib.Core.Path.{◌≡◌, refl, sym, ap, ◌∙◌}
use mathlib.Core.Bool.{Bool, true, false, false≢true}
use mathlib.Core.List.{List}
use Prim.Native.Nat.{ℕ, ◌+◌, ◌/◌, ◌≤◌, ◌<◌}
use Rattle.refusals.specs.Number.{placed_of}
use Rattle.refusals.specs.declared.Refused.{Refused}
use native.Mathlib.Omega.{arith}
use lib.Dec.{leb}
use lib.ListN.{length}
use lib.Ieee.{Float}
use Rattle.refusals.specs.Paper.{Paper, Reason, answers, refuses, only, demand, demand_none, onward}
use Rattle.floats.specs.Pick.{pick}
use Rattle.stock.specs.declared.TurnStockSpec.{TurnStockSpec}
use Rattle.stock.specs.declared.Stamp.{Stamp}
use Rattle.stock.specs.declared.TurnStock.{TurnStock}
use Rattle.stock.specs.declared.TurnChange.{TurnChange}
use Rattle.stock.specs.Spec.{clean_spec}
use Rattle.stock.specs.Cell.{stock_of}
use Rattle.stock.specs.Stock.{same_stamp, stock_with}
use Rattle.stock.proofs.Count.{demanded, no_answer, same_answer}
use Rattle.stock.proofs.Stamps.{other-generation}
use Rattle.blocks.specs.Block.{matches_of}
use Rattle.changes.specs.declared.ChangeList.{ChangeList}
use Rattle.changes.specs.Change.{room_of, changes_from}
use Rattle.changes.specs.Commit.{Committed, pass_all, put_all, commit_in, asked_stock, commit_of, apply_of, generation_of, stock_at, cells_after, kept_after, Applies, AppliesKept}
use Rattle.changes.proofs.Stamped as stamped
use Rattle.rings.specs.declared.Ring.{Ring}
use Rattle.rings.specs.Ring.{filled, clip}
use Rattle.rings.specs.Store.{bar_ring, rings_of, count_fits, bad_ring, raised_by}
use Rattle.rings.specs.Remove.{RingStore, counts_of, stock_after, remove_ring, Removes}
use Rattle.rings.specs.Tests.{ring_tests}
use Rattle.rings.proofs.Taken.{ring-taken}
use Rattle.moves.specs.Move as moves
use Rattle.moves.specs.Move.{Left, generation_after, movable_of, rings_moved, taken_of, move_in, move_of, Moves, MovesKept}
use Rattle.moves.proofs.Answered.{answered}
use Rattle.moves.proofs.Taking.{taken_in}
use Rattle.change_slices.specs.Move.{move_list_of}
use Rattle.demands.specs.History.{Owned, History, nothing-called, committed, committed-records, moved, moved-records, ringed, commit_first, move_first, records_first}
use Rattle.demands.proofs.Rings.{left_by}
use Rattle.demands.proofs.Second.{commit-call-writes, move-call-writes}

-- ---- another stamp: refused

-- what a refused commit answers and leaves
pub record StaleCommit (k : TurnStock) (cs : List Float) (r : Result TurnStock Refused) (cs' bs bs' : List Float) : Type 0 where
  pub reason : Reason
  pub answer : placed_of r ≡ refuses reason
  -- what is asked of the stock first, or 19
  pub first : commit_first k cs ≡ refuses reason
  pub cells : cs' ≡ cs
  pub blocks : bs' ≡ bs

stale-by : (k : TurnStock) (cs cs' bs bs' : List Float) (p : Paper Committed) (r : Result TurnStock Refused) → stamped.Stale k cs p → AppliesKept k p r cs cs' bs bs' → StaleCommit k cs r cs' bs bs'
stale-by k cs cs' bs bs' p r s a = record {
  reason = s.reason;
  answer = a.left.answer ∙ ap (λ (q : Paper Committed). stock_at k (generation_of q)) s.refused;
  first = s.number;
  cells = a.left.cells ∙ ap (λ (q : Paper Committed). cells_after q cs) s.refused;
  blocks = a.kept ∙ ap (λ (q : Paper Committed). kept_after k q bs) s.refused;
}

-- A COMMIT of a list whose edition or generation is not the stock's is refused, with 19 or with one of the numbers that stand before it, and leaves the cells and the kept numbers: whatever they are, and whatever the changes are
pub stale-apply : (k : TurnStock) (cs cs' bs bs' : List Float) (list : ChangeList) (is : List ℕ) (xs : List Float) (r : Result TurnStock Refused) → same_stamp list.stamp k.stamp ≡ false → AppliesKept k (apply_of k cs bs list is xs) r cs cs' bs bs' → StaleCommit k cs r cs' bs bs'
stale-apply k cs cs' bs bs' list is xs r e a = stale-by k cs cs' bs bs' (apply_of k cs bs list is xs) r (stamped.stale-apply k cs bs list is xs e) a

-- the same over records
pub stale-commit : (k : TurnStock) (cs cs' bs bs' : List Float) (st : Stamp) (l : List TurnChange) (r : Result TurnStock Refused) → same_stamp st k.stamp ≡ false → AppliesKept k (commit_of k cs bs st l) r cs cs' bs bs' → StaleCommit k cs r cs' bs bs'
stale-commit k cs cs' bs bs' st l r e a = stale-by k cs cs' bs bs' (commit_of k cs bs st l) r (stamped.stale-commit k cs bs st l e) a

-- what a refused move answers and leaves
pub record StaleMove (first : Paper Left) (r : Result TurnStock Refused) (cs cs' bs bs' xs xs' : List Float) : Type 0 where
  pub reason : Reason
  pub answer : placed_of r ≡ refuses reason
  pub before : first ≡ refuses reason
  pub cells : cs' ≡ cs
  pub blocks : bs' ≡ bs
  pub rings : xs' ≡ xs

left_alone : (k : TurnStock) (p first : Paper Left) (r : Result TurnStock Refused) (cs cs' bs bs' xs xs' : List Float) (n : Reason) → p ≡ refuses n → first ≡ refuses n → MovesKept k p r cs cs' bs bs' xs xs' → StaleMove first r cs cs' bs bs' xs xs'
left_alone k p first r cs cs' bs bs' xs xs' n e f a = record {
  reason = n;
  answer = a.left.answer ∙ ap (λ (q : Paper Left). stock_after k (moves.counts_of q)) e;
  before = f;
  cells = a.left.cells ∙ ap (λ (q : Paper Left). moves.moved_cells q cs) e;
  blocks = a.kept ∙ ap (λ (q : Paper Left). moves.moved_kept k q bs) e;
  rings = a.left.rings ∙ ap (λ (q : Paper Left). moves.moved_rings q xs) e;
}

-- a rule whose test of the stamp fails refuses as one that asks no further
record Same (p first : Paper Left) : Type 0 where
  reason : Reason
  refused : p ≡ refuses reason
  before : first ≡ refuses reason

behind : (t : Bool) (n : ℕ) (p first : Paper Left) → Same p first → Same (demand t n p) (demand t n first)
unfolding demand
behind true n p first s = s
behind false n p first s = record { reason = only n; refused = refl; before = refl }

behind-stock : (q : Paper ℕ) (f g : ℕ → Paper Left) → ((n : ℕ) → Same (f n) (g n)) → Same (onward q f) (onward q g)
unfolding onward
behind-stock (answers n) f g s = s n
behind-stock (refuses r) f g s = record { reason = r; refused = refl; before = refl }

-- what is asked of a move before its changes: 4, then the stamp's test fails
movable-stale : (k : TurnStock) (n : ℕ) (cs bs xs : List Float) (st : Stamp) (l : List TurnChange) (removed : List Float) → same_stamp st k.stamp ≡ false → Same (move_in k n cs bs xs st l removed) (demand (count_fits (bar_ring (clean_spec k.spec)) xs k.rings) 4 (refuses (only 19)))
unfolding move_in taken_of movable_of onward demand
movable-stale k n cs bs xs st l removed e = go (count_fits (bar_ring (clean_spec k.spec)) xs k.rings) (same_stamp st k.stamp) e
  where
    -- the rule by its first two tests
    by : Bool → Bool → Paper Left
    by t u =
        onward (onward (demand t 4 (demand u 19 (demand (matches_of (clean_spec k.spec) n cs bs) 20 (demand_none (bad_ring removed) 10 (answers (tt {0})))))) (λ _. onward (pass_all (clean_spec k.spec) n cs l) (λ _. rings_moved k xs removed)))
        (λ a. answers (record { cells = put_all cs l; rings = a.rings; generation = a.generation }))

    go : (t u : Bool) → u ≡ false → Same (by t u) (demand t 4 (refuses (only 19)))
    go t true f = absurd (false≢true (sym f))
    go true false f = record { reason = only 19; refused = refl; before = refl }
    go false false f = record { reason = only 4; refused = refl; before = refl }

-- A MOVE of such a list is refused, with 19 or with one of the numbers that stand before it, and leaves the cells, the kept numbers and the rings
pub stale-move : (k : TurnStock) (cs cs' bs bs' xs xs' : List Float) (list : ChangeList) (is : List ℕ) (ys removed : List Float) (r : Result TurnStock Refused) → same_stamp list.stamp k.stamp ≡ false → MovesKept k (move_of k cs bs xs list is ys removed) r cs cs' bs bs' xs xs'
    → StaleMove (move_first k cs xs list is ys) r cs cs' bs bs' xs xs'
unfolding move_of
stale-move k cs cs' bs bs' xs xs' list is ys removed r e a =
    let l = changes_from is ys list.count in
    let s = behind-stock (stock_of k.spec cs) (λ n. demand (leb list.count (room_of (length is) (length ys))) 6 (move_in k n cs bs xs list.stamp l removed)) _ (λ n.
    behind (leb list.count (room_of (length is) (length ys))) 6 (move_in k n cs bs xs list.stamp l removed) _ (movable-stale k n cs bs xs list.stamp l removed e)) in
    left_alone k (move_of k cs bs xs list is ys removed) (move_first k cs xs list is ys) r cs cs' bs bs' xs xs' s.reason s.refused s.before a

-- the same over records
pub stale-records : (k : TurnStock) (cs cs' bs bs' xs xs' : List Float) (st : Stamp) (l : List TurnChange) (removed : List Float) (r : Result TurnStock Refused) → same_stamp st k.stamp ≡ false → MovesKept k (move_list_of k cs bs xs st l removed) r cs cs' bs bs' xs xs'
    → StaleMove (records_first k cs xs) r cs cs' bs bs' xs xs'
unfolding move_list_of
stale-records k cs cs' bs bs' xs xs' st l removed r e a =
    let s = behind-stock (stock_of k.spec cs) (λ n. move_in k n cs bs xs st l removed) _ (λ n. movable-stale k n cs bs xs st l removed e) in
    left_alone k (move_list_of k cs bs xs st l removed) (records_first k cs xs) r cs cs' bs bs' xs xs' s.reason s.refused s.before a

-- ---- generations only rise, and the edition is kept

-- the stock afterwards has the spec and the edition, and no lesser generation
pub record Later (s s' : TurnStock) : Type 0 where
  pub spec : s'.spec ≡ s.spec
  pub edition : s'.stamp.edition ≡ s.stamp.edition
  pub rises : s.stamp.generation ≤ s'.stamp.generation

later-at : (s s' : TurnStock) (n g : ℕ) → s' ≡ stock_with s n g → s.stamp.generation ≤ g → Later s s'
later-at s s' n g e h =
    let f : s'.stamp.generation ≡ g = ap (λ (x : TurnStock). x.stamp.generation) e in
    record { spec = ap (λ (x : TurnStock). x.spec) e; edition = ap (λ (x : TurnStock). x.stamp.edition) e; rises = omega arith }

later-on : {s t u : TurnStock} → Later s t → Later t u → Later s u
later-on a b = record { spec = b.spec ∙ a.spec; edition = b.edition ∙ a.edition; rises = let x = a.rises in let y = b.rises in omega arith }

-- a commit raises the generation by 1
pub apply-later : (s s' : TurnStock) (cs cs' bs : List Float) (list : ChangeList) (is : List ℕ) (xs : List Float) → Applies s (apply_of s cs bs list is xs) (Ok s') cs cs' → s' ≡ stock_with s s.rings (s.stamp.generation + 1)
apply-later s s' cs cs' bs list is xs a = (commit-call-writes s s' cs cs' bs list is xs a).1

pub commit-later : (s s' : TurnStock) (cs cs' bs : List Float) (st : Stamp) (l : List TurnChange) → Applies s (commit_of s cs bs st l) (Ok s') cs cs' → s' ≡ stock_with s s.rings (s.stamp.generation + 1)
unfolding commit_of commit_in
commit-later s s' cs cs' bs st l a = go (commit_of s cs bs st l) refl a.answer
  where
    go : (p : Paper Committed) → commit_of s cs bs st l ≡ p → answers s' ≡ stock_at s (generation_of p) → s' ≡ stock_with s s.rings (s.stamp.generation + 1)
    go (refuses n) e b = absurd (no_answer n s' (sym b))
    go (answers m) e b =
        let w = answered (asked_stock s cs bs st) _ m e in
        let p = answered _ _ _ w.then in
        let v : ◌≡◌ {A = Committed} (record { cells = put_all cs l; generation = s.stamp.generation + 1 }) m = same_answer (demanded _ _ _ _ p.then).1 in
        same_answer b ∙ ap (λ (y : Committed). stock_with s s.rings y.generation) (sym v)

-- a move raises it by 1 at least
after-rises : (spec : TurnStockSpec) (g : ℕ) (removed : List Float) → g + 1 ≤ generation_after spec g removed
unfolding generation_after
after-rises spec g removed = let x = raised_by (bar_ring (clean_spec spec)) (rings_of (length removed / 4) removed) in omega arith

pub records-later : (s s' : TurnStock) (cs cs' bs xs xs' : List Float) (st : Stamp) (l : List TurnChange) (removed : List Float) → Moves s (move_list_of s cs bs xs st l removed) (Ok s') cs cs' xs xs'
    → s' ≡ stock_with s s'.rings (generation_after s.spec s.stamp.generation removed)
unfolding move_list_of
records-later s s' cs cs' bs xs xs' st l removed a =
    let t = left_by a in
    let w = answered (stock_of s.spec cs) _ t.left t.rule in
    t.stock ∙ ap (λ (g : ℕ). stock_with s s'.rings g) (taken_in s w.value cs bs xs st l removed t.left w.then).rises

-- a ring leaves it, or raises it by 1
ring-later : (s s' : TurnStock) (xs xs' : List Float) {t : ℕ} (q : Ring) → Removes s xs (remove_ring s.spec xs s.rings s.stamp.generation q) (ring_tests s.spec xs s.rings q) (Ok (record { stock = s'; tests = t })) xs' → Later s s'
unfolding counts_of onward pick
ring-later s s' xs xs' q a = go (remove_ring s.spec xs s.rings g q) refl a.answer
  where
    g : ℕ
    g = s.stamp.generation

    rises : (t : Bool) (h : ℕ) → h ≡ pick t (g + 1) g → g ≤ h
    rises true h e = omega arith
    rises false h e = omega arith

    go : (p : Paper RingStore) → remove_ring s.spec xs s.rings g q ≡ p → answers s' ≡ stock_after s (counts_of p) → Later s s'
    go (refuses n) e b = absurd (no_answer n s' (sym b))
    go (answers m) e b = later-at s s' (length m.rings) m.generation (same_answer b) (rises (filled (clip (bar_ring (clean_spec s.spec)) q)) m.generation (ring-taken s.spec xs s.rings g q m e).rises)

-- THE EDITION IS KEPT AND GENERATIONS ONLY RISE, by whatever was accepted
pub history-later : {k m : Owned} → History k m → Later k.stock m.stock
history-later nothing-called = record { spec = refl; edition = refl; rises = omega arith }
history-later (committed {s} {s'} {cs} {cs'} {bs} list is xs a h) = later-on (later-at s s' _ _ (apply-later s s' cs cs' bs list is xs a.left) (omega arith)) (history-later h)
history-later (committed-records {s} {s'} {cs} {cs'} {bs} st l a h) = later-on (later-at s s' _ _ (commit-later s s' cs cs' bs st l a.left) (omega arith)) (history-later h)
history-later (moved {s} {s'} {cs} {cs'} {bs} {bs'} {rs} {rs'} list is xs removed a h) =
    let x = after-rises s.spec s.stamp.generation removed in
    later-on (later-at s s' s'.rings (generation_after s.spec s.stamp.generation removed) (move-call-writes s s' cs cs' bs rs rs' list is xs removed a.left).2 (omega arith)) (history-later h)
history-later (moved-records {s} {s'} {cs} {cs'} {bs} {bs'} {rs} {rs'} st l removed a h) =
    let x = after-rises s.spec s.stamp.generation removed in
    later-on (later-at s s' s'.rings (generation_after s.spec s.stamp.generation removed) (records-later s s' cs cs' bs rs rs' st l removed a.left) (omega arith)) (history-later h)
history-later (ringed {s} {s'} {cs} {bs} {rs} {rs'} q a h) = later-on (ring-later s s' rs rs' q a) (history-later h)

-- NEVER AGAIN: a list has the stamp of the stock k, as one previewed there has; the stock went on and its generation rose; then the list's stamp is not the stock's, now and after any more calls.
-- So it is refused by commits and moves (`stale-apply`, `stale-commit`, `stale-move`, `stale-records`), until a rebuild.
pub never-again : {k m m' : Owned} → History k m → k.stock.stamp.generation < m.stock.stamp.generation → History m m' → (st : Stamp) → st ≡ k.stock.stamp → same_stamp st m'.stock.stamp ≡ false
never-again {k} {m} {m'} a h b st e =
    let x = (history-later b).rises in
    let y : st.generation ≡ k.stock.stamp.generation = ap (λ (z : Stamp). z.generation) e in
    other-generation st m'.stock.stamp (λ f. omega arith)
