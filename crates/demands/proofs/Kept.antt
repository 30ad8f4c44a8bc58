-- THE KEPT NUMBERS ARE THOSE OF THE CELLS, ALWAYS (Req 09): from numbers that match, whatever commits, moves and rings were accepted, they match (`kept-through`), so that no later call gives 20
-- (`matched-asks`) and a range is what the walk over its bins says (`matched-range`); two lists that are accepted are the same numbers (`matched-once`); a rebuild has them (`rebuilt-matching`), whatever stood there; and after a commit the same range shows nothing,
-- or a band within the one before (`cut-ranges-less`). Assumes nothing.
use Rattle.std.specs.Prelude.{Some, Ok}
use mathlib.Core.Path.{◌≡◌, refl, sym, ap, ◌∙◌, subst}
use mathlib.Core.Bool.{true}
use mathlib.Core.List.{List, [], map}
use mathlib.Core.Logic.{◌⊎◌, inl, inr}
use Prim.Native.Nat.{ℕ, ◌+◌, ◌<◌}
use lib.Ieee.{Float}
use Rattle.refusals.specs.Paper.{Paper, answers, refuses, onward, onward-answers}
use Rattle.floats.specs.Numbers.{clean_of}
use Rattle.stock.specs.declared.TurnStockSpec.{TurnStockSpec}
use Rattle.stock.specs.declared.TurnStock.{TurnStock}
use Rattle.stock.specs.Spec.{clean_spec}
use Rattle.stock.specs.Cell.{cell_at, stock_of}
use Rattle.stock.proofs.Bins.{HeldSpec, HeldList}
use Rattle.stock.proofs.Count.{no_answer, same_answer, demanded, stocked, checked}
use Rattle.blocks.specs.Block.{matches_of}
use Rattle.blocks.specs.Range.{most_between, range_of}
use Rattle.blocks.proofs.Stocks.{kept-matched, match-once}
use Rattle.blocks.proofs.Laws.{range-less}
use Rattle.queries.specs.declared.Band.{Band}
use Rattle.queries.specs.Looked.{Nested}
use Rattle.changes.specs.declared.ChangeList.{ChangeList}
use Rattle.changes.specs.Change.{changes_from}
use Rattle.changes.specs.Commit.{Committed, put_all, asked_stock, commit_in, apply_of, cells_after, numbers_kept, AppliesKept}
use Rattle.changes.proofs.Stamped.{Matching, own-asked}
use Rattle.changes.proofs.Stocks.{stock-good}
use Rattle.changes.proofs.Kept.{asked}
use Rattle.rings.specs.declared.Ring.{Ring}
use Rattle.rings.specs.Remove.{count_of, remove_ring, Removes}
use Rattle.rings.specs.Tests.{ring_tests}
use Rattle.moves.specs.Move.{Left, MovesKept, Rebuilds}
use Rattle.moves.proofs.Answered.{answered}
use Rattle.moves.proofs.Cells.{passed-stock, passed-removes}
use Rattle.queries.proofs.Sights.{Less}
use Rattle.demands.specs.History.{Owned, owned, History, nothing-called, committed, committed-records, moved, moved-records, ringed}
use Rattle.demands.proofs.Matched.{accepted-as, asked-matching, own-matching, kept-own}
use Rattle.demands.proofs.Second.{move-call-writes}
use Rattle.demands.proofs.Sees.{less-of}
use Rattle.demands.proofs.Stale.{apply-later, commit-later, records-later, history-later}

-- ---- what numbers that match are good for

-- a stock with its own list and such numbers is asked for its cells alone: 19 and 20 do not arise
pub matched-asks : (k : TurnStock) (cs bs : List Float) → Matching k.spec cs bs → asked_stock k cs bs k.stamp ≡ stock_of k.spec cs
matched-asks = own-asked

-- and a range is what the walk over its bins says, of a stock that is not refused
pub matched-range : (spec : TurnStockSpec) (cs bs : List Float) (n : ℕ) (lo hi : Float) → stock_of spec cs ≡ answers n → Matching spec cs bs → range_of spec cs bs lo hi ≡ answers (most_between (clean_spec spec) n cs (clean_of lo) (clean_of hi))
unfolding range_of
matched-range spec cs bs n lo hi e m =
    ap (λ (p : Paper ℕ). onward p (λ j. answers (most_between (clean_spec spec) j cs (clean_of lo) (clean_of hi)))) (sym (kept-matched spec cs bs n e (m n e))) ∙ onward-answers n _

-- two lists that are accepted for the same cells are the same numbers, -0.0 read as +0.0
pub matched-once : (spec : TurnStockSpec) (cs : List Float) (n : ℕ) (bs bs' : List Float) → HeldSpec spec → HeldList cs → HeldList bs → HeldList bs' → stock_of spec cs ≡ answers n → Matching spec cs bs → Matching spec cs bs' → map clean_of bs ≡ map clean_of bs'
matched-once spec cs n bs bs' hs hc hb hb' e m m' = match-once spec cs n hs hc e bs bs' hb hb' (m n e) (m' n e)

-- the numbers of cells that are values of f64 match them
own_held : (spec : TurnStockSpec) (cs : List Float) → HeldSpec spec → HeldList cs → Matching spec cs (numbers_kept spec cs)
own_held spec cs hs hc n e = own-matching hs (stock-good hs hc e) n e

-- ---- what was accepted keeps them

-- a move leaves the numbers of the cells then
pub move-own : (k k' : TurnStock) (p : Paper Left) (cs cs' bs bs' xs xs' : List Float) → MovesKept k p (Ok k') cs cs' bs bs' xs xs' → bs' ≡ numbers_kept k.spec cs'
move-own k k' (answers m) cs cs' bs bs' xs xs' a = a.kept ∙ ap (numbers_kept k.spec) (sym a.left.cells)
move-own k k' (refuses r) cs cs' bs bs' xs xs' a = absurd (no_answer r k' (sym a.left.answer))

-- after any calls the kept numbers are those of the cells, or neither was written
abbrev Fresh : Owned → Owned → Type 0
Fresh k m = (m.blocks ≡ numbers_kept k.stock.spec m.cells) ⊎ ((m.cells ≡ k.cells) × (m.blocks ≡ k.blocks))

-- from a call that left them so
fresh_on : (spec : TurnStockSpec) (cs bs : List Float) (m : Owned) → bs ≡ numbers_kept spec cs → (m.blocks ≡ numbers_kept spec m.cells) ⊎ ((m.cells ≡ cs) × (m.blocks ≡ bs)) → m.blocks ≡ numbers_kept spec m.cells
fresh_on spec cs bs m e (inl f) = f
fresh_on spec cs bs m e (inr f) = f.1 ∙ e ∙ ap (numbers_kept spec) (sym f.0)

-- a ring keeps the spec
ring-spec : (s s' : TurnStock) (xs xs' : List Float) {t : ℕ} (q : Ring) → Removes s xs (remove_ring s.spec xs s.rings s.stamp.generation q) (ring_tests s.spec xs s.rings q) (Ok (record { stock = s'; tests = t })) xs' → s'.spec ≡ s.spec
ring-spec s s' xs xs' q a = (history-later (ringed {cs = []} {bs = []} q a nothing-called)).spec

-- of a stock of the same spec
of_spec : (s s' : TurnStock) (cs bs rs : List Float) (m : Owned) → s'.spec ≡ s.spec → Fresh (owned s' cs bs rs) m → (m.blocks ≡ numbers_kept s.spec m.cells) ⊎ ((m.cells ≡ cs) × (m.blocks ≡ bs))
of_spec s s' cs bs rs m e f = subst (λ (x : TurnStockSpec). (m.blocks ≡ numbers_kept x m.cells) ⊎ ((m.cells ≡ cs) × (m.blocks ≡ bs))) e f

pub history-kept : {k m : Owned} → History k m → Fresh k m
history-kept nothing-called = inr (refl, refl)
history-kept (committed {s} {s'} {cs} {cs'} {bs} {bs'} {rs} {m} list is xs a h) =
    inl (fresh_on s.spec cs' bs' m (kept-own s s' _ cs cs' bs bs' a) (of_spec s s' cs' bs' rs m (ap (λ (x : TurnStock). x.spec) (apply-later s s' cs cs' bs list is xs a.left)) (history-kept h)))
history-kept (committed-records {s} {s'} {cs} {cs'} {bs} {bs'} {rs} {m} st l a h) =
    inl (fresh_on s.spec cs' bs' m (kept-own s s' _ cs cs' bs bs' a) (of_spec s s' cs' bs' rs m (ap (λ (x : TurnStock). x.spec) (commit-later s s' cs cs' bs st l a.left)) (history-kept h)))
history-kept (moved {s} {s'} {cs} {cs'} {bs} {bs'} {rs} {rs'} {m} list is xs removed a h) =
    inl (fresh_on s.spec cs' bs' m (move-own s s' _ cs cs' bs bs' rs rs' a) (of_spec s s' cs' bs' rs' m (ap (λ (x : TurnStock). x.spec) (move-call-writes s s' cs cs' bs rs rs' list is xs removed a.left).2) (history-kept h)))
history-kept (moved-records {s} {s'} {cs} {cs'} {bs} {bs'} {rs} {rs'} {m} st l removed a h) =
    inl (fresh_on s.spec cs' bs' m (move-own s s' _ cs cs' bs bs' rs rs' a) (of_spec s s' cs' bs' rs' m (ap (λ (x : TurnStock). x.spec) (records-later s s' cs cs' bs rs rs' st l removed a.left)) (history-kept h)))
history-kept (ringed {s} {s'} {cs} {bs} {rs} {rs'} {m} q a h) = of_spec s s' cs bs rs' m (ring-spec s s' rs rs' q a) (history-kept h)

-- ALWAYS: from numbers that match, through whatever commits, moves and rings were accepted, to numbers that match. The cells at its end are values of f64.
pub kept-through : {k m : Owned} → History k m → HeldSpec k.stock.spec → HeldList m.cells → Matching k.stock.spec k.cells k.blocks → Matching k.stock.spec m.cells m.blocks
kept-through {k} {m} h hs hc mt = go (history-kept h)
  where
    go : Fresh k m → Matching k.stock.spec m.cells m.blocks
    go (inl f) = subst (Matching k.stock.spec m.cells) (sym f) (own_held k.stock.spec m.cells hs hc)
    go (inr f) = λ n e. subst (λ (cs : List Float). matches_of (clean_spec k.stock.spec) n cs m.blocks ≡ true) (sym f.0) (subst (λ (bs : List Float). matches_of (clean_spec k.stock.spec) n k.cells bs ≡ true) (sym f.1) (mt n (ap (stock_of k.stock.spec) (sym f.0) ∙ e)))

-- A REBUILD has them, whatever stood in the lent numbers
pub rebuilt-matching : (spec : TurnStockSpec) (edition : ℕ) (cs : List Float) (p : Paper (List Ring)) (k : TurnStock) (bs bs' xs ys : List Float) → HeldSpec spec → HeldList cs → Rebuilds spec edition cs p (Ok k) bs bs' xs ys → Matching spec cs bs'
unfolding count_of onward
rebuilt-matching spec edition cs (answers l) k bs bs' xs ys hs hc a = subst (Matching spec cs) (sym a.kept) (own_held spec cs hs hc)
rebuilt-matching spec edition cs (refuses r) k bs bs' xs ys hs hc a = absurd (no_answer r k (sym a.answer))

-- ---- after a commit less is shown
pub cut-ranges-less : (k k' : TurnStock) (cs cs' bs bs' : List Float) (list : ChangeList) (is : List ℕ) (xs : List Float) → AppliesKept k (apply_of k cs bs list is xs) (Ok k') cs cs' bs bs' → HeldSpec k.spec → HeldList cs'
    → (lo hi : Float) (b' : Band) → range_of k.spec cs' bs' lo hi ≡ answers (Some b') → (b : Band) × (range_of k.spec cs bs lo hi ≡ answers (Some b)) × Nested b' b
unfolding apply_of commit_in
cut-ranges-less k k' cs cs' bs bs' list is xs a hs hc lo hi b' f =
    let l = changes_from is xs list.count in
    let m = accepted-as k k' (apply_of k cs bs list is xs) cs cs' a.left in
    let s = answered (asked_stock k cs bs list.stamp) _ m.0 m.1 in
    let n = s.value in
    let w = asked k cs bs list.stamp n s.first in
    let p = answered _ _ _ (demanded _ _ _ _ s.then).1 in
    let v : ◌≡◌ {A = Committed} (record { cells = put_all cs l; generation = k.stamp.generation + 1 }) m.0 = same_answer (demanded _ _ _ _ p.then).1 in
    let left : cs' ≡ put_all cs l = a.left.cells ∙ ap (λ (q : Paper Committed). cells_after q cs) m.1 ∙ sym (ap (λ (y : Committed). y.cells) v) in
    let after : stock_of k.spec cs' ≡ answers n = ap (stock_of k.spec) left ∙ passed-stock k.spec cs n l w.stock p.first in
    let own = subst (Matching k.spec cs') (sym (kept-own k k' _ cs cs' bs bs' a)) (own_held k.spec cs' hs hc) in
    let less : (i : ℕ) → i < n → Less (cell_at cs i) (cell_at cs' i) = λ i h. subst (λ (x : List Float). Less (cell_at cs i) (cell_at x i)) (sym left) (less-of (cell_at cs i) (cell_at (put_all cs l) i) (passed-removes k.spec cs n l w.stock p.first i h)) in
    let r = range-less (clean_spec k.spec) n cs' (clean_of lo) (clean_of hi) cs (checked k.spec n (stocked k.spec cs n w.stock).count).some-cells less b' (same_answer (sym (matched-range k.spec cs' bs' n lo hi after own) ∙ f)) in
    (r.0, matched-range k.spec cs bs n lo hi w.stock (asked-matching k cs bs list.stamp n s.first) ∙ ap answers r.1, r.2)
