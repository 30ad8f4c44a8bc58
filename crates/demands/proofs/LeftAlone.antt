-- The first demand over the calls themselves, by their promises: a call is refused exactly as its rule is, a refusal returns its number only, and every lent buffer keeps its contents, but for the two lists that a line of a job is lent as scratch.
-- A buffer that a call is lent to read alone it cannot write: that is its type. Here are those that it is lent to write; at the C boundary they are in proofs/LeftAlone of turning.
-- `stock_file::take_part` refuses nothing, and `finish`, which tells a refused line, is lent all to read alone. So the lines before a refused one stand in the lent room: beside the caller's own reading state (the reading, the held line) this is the
-- only place where a refusal finds something written (`file-room`, proofs/Files). Assumes nothing.
use Rattle.std.specs.Prelude.{Err, Result}
use mathlib.Core.Path.{◌≡◌, refl, sym, ap, ◌∙◌, subst}
use mathlib.Core.List.{List, map}
use Prim.Native.Nat.{ℕ, ◌/◌}
use lib.IntN.{ℤ}
use lib.ListN.{length}
use lib.Ieee.{Float}
use Rattle.refusals.specs.declared.Refused.{Refused}
use Rattle.refusals.specs.declared.Refusal.{Refusal}
use Rattle.refusals.specs.Number.{number_of, reason_of, paper_of, placed_of}
use Rattle.refusals.specs.Lent.{over}
use Rattle.refusals.specs.Paper.{Paper, Reason, answers, refuses, onward}
use Rattle.stock.specs.declared.TurnStockSpec.{TurnStockSpec}
use Rattle.stock.specs.declared.TurnStock.{TurnStock}
use Rattle.stock.specs.declared.Stamp.{Stamp}
use Rattle.stock.specs.declared.TurnChange.{TurnChange}
use Rattle.stock.specs.Cell.{new_of, new_cells}
use Rattle.stock.specs.Stock.{stock_made, Filled}
use Rattle.stock.proofs.Count.{no_answer}
use Rattle.blocks.specs.Renew.{renew_of, blocks_after, Renewed}
use Rattle.changes.specs.declared.ChangeList.{ChangeList}
use Rattle.changes.specs.Change.{count_of, numbers_of, Proposed, stamped}
use Rattle.changes.specs.Commit.{Committed, generation_of, Applies, AppliesKept, stock_at, kept_after}
use Rattle.rings.specs.declared.Ring.{Ring}
use Rattle.rings.specs.declared.Removed.{Removed}
use Rattle.rings.specs.declared.RingCount.{RingCount}
use Rattle.rings.specs.Remove as rings
use Rattle.rings.specs.Remove.{RingStore, StoresAs, stock_after, removed_paper, counts_of, rings_left_after, Removes}
use Rattle.moves.specs.Move as moves
use Rattle.moves.specs.Move.{Left, MovesKept, stock_stored, Rebuilds, RingsLeft, TakesRings}
use Rattle.envelope.specs.Halving.{kept_of, Kept}
use Rattle.change_slices.specs.Proposal.{Written}
use Rattle.job_run.specs.declared.line.Job.{Job}
use Rattle.profile.specs.Chords.{Chord, flat_of, segments_of, written_of, Segmented}
use Rattle.profile.specs.Chords as chords
use Rattle.job_run.specs.Job.{Stand, job_after, Carries}
use Rattle.demands.specs.Refused.{Asked, number_alone, Exactly}
use Rattle.demands.proofs.Asking.{refusal_of, placeless, same_number, exactly-as, exactly-placeless}

-- ---- previews and the difference: the two lists that changes are written to

-- refused exactly as the rule is
pub preview-call : {st : Stamp} {p : Paper (List TurnChange)} {r : (Result ChangeList Refusal)} {is is' : List ℕ} {xs xs' : List Float} {l : List Asked} → Proposed st p r is is' xs xs' → Exactly p l → Exactly (paper_of r) l
unfolding refusal_of
preview-call {st} {p} {r} h x = exactly-as (paper_of r) (ap refusal_of h.answer ∙ same p) x
  where
    same : (p : Paper (List TurnChange)) → refusal_of (stamped st (count_of p)) ≡ refusal_of p
    same (answers l) = refl
    same (refuses n) = refl

-- and then both lists are as they were
pub preview-left : (st : Stamp) (p : Paper (List TurnChange)) (c : Refusal) (is is' : List ℕ) (xs xs' : List Float) → Proposed st p (Err c) is is' xs xs' → (p ≡ refuses (reason_of c)) × (is' ≡ is) × (xs' ≡ xs)
unfolding over numbers_of
preview-left st (answers l) c is is' xs xs' h = absurd (no_answer (reason_of c) _ h.answer)
preview-left st (refuses n) c is is' xs xs' h = (same_number h.answer, h.indices, h.numbers)

-- ---- a tool's changes into records: the records

pub records-call : {st : Stamp} {p : Paper (List TurnChange)} {r : (Result ChangeList Refusal)} {rs rs' : List TurnChange} {l : List Asked} → Written st p r rs rs' → Exactly p l → Exactly (paper_of r) l
unfolding refusal_of
records-call {st} {p} {r} h x = exactly-as (paper_of r) (ap refusal_of h.answer ∙ same p) x
  where
    same : (p : Paper (List TurnChange)) → refusal_of (stamped st (count_of p)) ≡ refusal_of p
    same (answers l) = refl
    same (refuses n) = refl

pub records-left : (st : Stamp) (p : Paper (List TurnChange)) (c : Refusal) (rs rs' : List TurnChange) → Written st p (Err c) rs rs' → (p ≡ refuses (reason_of c)) × (rs' ≡ rs)
unfolding over
records-left st (answers l) c rs rs' h = absurd (no_answer (reason_of c) _ h.answer)
records-left st (refuses n) c rs rs' h = (same_number h.answer, h.records)

-- ---- a commit, over flat lists or over records, and `commit_unasked`: the cells, and the kept numbers of the first two

pub commit-call : {k : TurnStock} {p : Paper Committed} {r : (Result TurnStock Refused)} {cs cs' : List Float} {l : List Asked} → Applies k p r cs cs' → Exactly p l → Exactly (placed_of r) l
unfolding refusal_of
commit-call {k} {p} {r} h x = exactly-as (placed_of r) (ap refusal_of h.answer ∙ same p) x
  where
    same : (p : Paper Committed) → refusal_of (stock_at k (generation_of p)) ≡ refusal_of p
    same (answers m) = refl
    same (refuses n) = refl

pub commit-left : (k : TurnStock) (p : Paper Committed) (r : Result TurnStock Refused) (n : Reason) (cs cs' : List Float) → placed_of r ≡ refuses n → Applies k p r cs cs' → (p ≡ refuses n) × (cs' ≡ cs)
commit-left k (answers m) r n cs cs' e h = absurd (no_answer n _ (sym e ∙ h.answer))
commit-left k (refuses m) r n cs cs' e h = (same_number (sym e ∙ h.answer), h.cells)

pub commit-kept : (k : TurnStock) (p : Paper Committed) (r : Result TurnStock Refused) (n : Reason) (cs cs' bs bs' : List Float) → placed_of r ≡ refuses n → AppliesKept k p r cs cs' bs bs' → (p ≡ refuses n) × (cs' ≡ cs) × (bs' ≡ bs)
commit-kept k p r n cs cs' bs bs' e h = let w = commit-left k p r n cs cs' e h.left in (w.0, w.1, h.kept ∙ ap (λ (q : Paper Committed). kept_after k q bs) w.0)

-- ---- one ring: the rings

pub ring-call : {k : TurnStock} {p : Paper RingStore} {m : ℕ} {r : Result Removed Refused} {xs ys : List Float} {l : List Asked} → Removes k xs p m r ys → Exactly p l → Exactly (removed_paper r) l
unfolding refusal_of counts_of onward
ring-call {k} {p} {m} {r} h x = exactly-as (removed_paper r) (ap refusal_of h.answer ∙ same p) x
  where
    same : (p : Paper RingStore) → refusal_of (stock_after k (counts_of p)) ≡ refusal_of p
    same (answers s) = refl
    same (refuses n) = refl

pub ring-left : (k : TurnStock) (p : Paper RingStore) (t : ℕ) (r : Result Removed Refused) (n : Reason) (xs ys : List Float) → removed_paper r ≡ refuses n → Removes k xs p t r ys → (p ≡ refuses n) × (ys ≡ xs)
unfolding counts_of rings_left_after onward
ring-left k (answers s) t r n xs ys e h = absurd (no_answer n _ (sym e ∙ h.answer))
ring-left k (refuses m) t r n xs ys e h = (same_number (sym e ∙ h.answer), h.store)

-- ---- a list of rings: the rings

pub rings-call : {p : Paper (List Ring)} {r : (Result ℕ Refused)} {xs ys : List Float} {l : List Asked} → StoresAs xs p r ys → Exactly p l → Exactly (placed_of r) l
unfolding refusal_of rings.count_of onward
rings-call {p} {r} h x = exactly-as (placed_of r) (ap refusal_of h.answer ∙ same p) x
  where
    same : (p : Paper (List Ring)) → refusal_of (rings.count_of p) ≡ refusal_of p
    same (answers k) = refl
    same (refuses n) = refl

pub rings-left : (p : Paper (List Ring)) (r : Result ℕ Refused) (n : Reason) (xs ys : List Float) → placed_of r ≡ refuses n → StoresAs xs p r ys → (p ≡ refuses n) × (ys ≡ xs)
unfolding rings.count_of onward
rings-left (answers k) r n xs ys e h = absurd (no_answer n (length k) (sym e ∙ h.answer))
rings-left (refuses m) r n xs ys e h = (same_number (sym e ∙ h.answer), h.store)

-- ---- the rings of a move alone

pub taken-call : {p : Paper RingsLeft} {r : (Result RingCount Refused)} {xs ys : List Float} {l : List Asked} → TakesRings p r xs ys → Exactly p l → Exactly (placed_of r) l
unfolding refusal_of
taken-call {p} {r} h x = exactly-as (placed_of r) (ap refusal_of h.answer ∙ same p) x
  where
    same : (p : Paper RingsLeft) → refusal_of (moves.counts_left p) ≡ refusal_of p
    same (answers a) = refl
    same (refuses n) = refl

pub taken-left : (p : Paper RingsLeft) (r : Result RingCount Refused) (n : Reason) (xs ys : List Float) → placed_of r ≡ refuses n → TakesRings p r xs ys → (p ≡ refuses n) × (ys ≡ xs)
taken-left (answers a) r n xs ys e h = absurd (no_answer n _ (sym e ∙ h.answer))
taken-left (refuses m) r n xs ys e h = (same_number (sym e ∙ h.answer), h.rings)

-- ---- parts: the kept numbers and the rings

pub parts-call : {spec : TurnStockSpec} {edition : ℕ} {p : Paper (List Ring)} {cs : List Float} {r : (Result TurnStock Refused)} {bs bs' xs ys : List Float} {l : List Asked} → Rebuilds spec edition cs p r bs bs' xs ys → Exactly p l → Exactly (placed_of r) l
unfolding refusal_of rings.count_of onward
parts-call {spec} {edition} {p} {cs} {r} h x = exactly-as (placed_of r) (ap refusal_of h.answer ∙ same p) x
  where
    same : (p : Paper (List Ring)) → refusal_of (stock_stored spec edition (rings.count_of p)) ≡ refusal_of p
    same (answers k) = refl
    same (refuses n) = refl

pub parts-left : (spec : TurnStockSpec) (edition : ℕ) (cs : List Float) (p : Paper (List Ring)) (r : Result TurnStock Refused) (n : Reason) (bs bs' xs ys : List Float) → placed_of r ≡ refuses n → Rebuilds spec edition cs p r bs bs' xs ys → (p ≡ refuses n) × (bs' ≡ bs) × (ys ≡ xs)
unfolding rings.count_of onward
parts-left spec edition cs (answers k) r n bs bs' xs ys e h = absurd (no_answer n _ (sym e ∙ h.answer))
parts-left spec edition cs (refuses m) r n bs bs' xs ys e h = (same_number (sym e ∙ h.answer), h.kept, h.store)

-- ---- a move: the cells, the kept numbers and the rings, nothing of either written before all is decided

pub move-call : {k : TurnStock} {p : Paper Left} {r : (Result TurnStock Refused)} {cs cs' bs bs' xs xs' : List Float} {l : List Asked} → MovesKept k p r cs cs' bs bs' xs xs' → Exactly p l → Exactly (placed_of r) l
unfolding refusal_of
move-call {k} {p} {r} h x = exactly-as (placed_of r) (ap refusal_of h.left.answer ∙ same p) x
  where
    same : (p : Paper Left) → refusal_of (stock_after k (moves.counts_of p)) ≡ refusal_of p
    same (answers a) = refl
    same (refuses n) = refl

pub move-left : (k : TurnStock) (p : Paper Left) (r : Result TurnStock Refused) (n : Reason) (cs cs' bs bs' xs xs' : List Float) → placed_of r ≡ refuses n → MovesKept k p r cs cs' bs bs' xs xs' → (p ≡ refuses n) × (cs' ≡ cs) × (bs' ≡ bs) × (xs' ≡ xs)
move-left k (answers a) r n cs cs' bs bs' xs xs' e h = absurd (no_answer n _ (sym e ∙ h.left.answer))
move-left k (refuses m) r n cs cs' bs bs' xs xs' e h = (same_number (sym e ∙ h.left.answer), h.left.cells, h.kept, h.left.rings)

-- ---- a line of a job: the cells and the rings. The two lists are scratch of the call: at the last generation a cut has written its changes there when its commit answers 12

-- the numbers are the rule's; a place is not told
pub line-call : {p : Paper Stand} {r : (Result Job Refusal)} {cs cs' xs xs' : List Float} {l : List Asked} → Carries p r cs cs' xs xs' → Exactly p l → Exactly (paper_of r) (map number_alone l)
unfolding refusal_of placeless
line-call {p} {r} h x = exactly-as (paper_of r) (ap refusal_of h.answer ∙ same p) (exactly-placeless x)
  where
    same : (p : Paper Stand) → refusal_of (job_after p) ≡ refusal_of (placeless p)
    same (answers s) = refl
    same (refuses n) = refl

pub line-left : (p : Paper Stand) (c : Refusal) (cs cs' xs xs' : List Float) → Carries p (Err c) cs cs' xs xs' → (n : Reason) × (p ≡ refuses n) × (n.number ≡ number_of c) × (cs' ≡ cs) × (xs' ≡ xs)
line-left (answers s) c cs cs' xs xs' h = absurd (no_answer (reason_of c) s.job h.answer)
line-left (refuses n) c cs cs' xs xs' h = (n, refl, ap number_in (sym h.answer), h.cells, h.rings)
  where
    number_in : Paper Job → ℕ
    number_in (answers j) = 0
    number_in (refuses m) = m.number

-- ---- a new stock: the numbers that it is to fill

pub fill-left : (spec : TurnStockSpec) (edition : ℕ) (c : Refusal) (cs cs' : List Float) → Filled spec edition (Err c) cs cs' → (new_of spec (length cs) ≡ refuses (reason_of c)) × (cs' ≡ cs)
fill-left spec edition c cs cs' h = go (new_of spec (length cs)) refl h.answer h.cells
  where
    go : (p : Paper ℕ) → new_of spec (length cs) ≡ p → refuses (reason_of c) ≡ stock_made spec edition p → cs' ≡ new_cells spec p cs → (new_of spec (length cs) ≡ refuses (reason_of c)) × (cs' ≡ cs)
    go (answers n) e b d = absurd (no_answer (reason_of c) _ b)
    go (refuses n) e b d = (e ∙ same_number b, d)

-- ---- kept numbers that are worked out

pub renew-left : (spec : TurnStockSpec) (cs : List Float) (c : Refusal) (bs bs' : List Float) → Renewed spec cs (Err c) bs bs' → (renew_of spec cs (length bs) ≡ refuses (reason_of c)) × (bs' ≡ bs)
renew-left spec cs c bs bs' h = (sym h.answer, h.numbers ∙ ap (λ (p : Paper ℕ). blocks_after spec cs p bs) (sym h.answer))

-- ---- calls that are lent nothing to write

-- `validate`, `bin`, `cells_fit`, `root`, `length`, `volume`, `envelope_at`, `range`, `order_of`, `radius_at`, ..: the promise is that the answer, case by case, is the rule's
pub plain-call : {A : Type 0} {p q : Paper A} {l : List Asked} → q ≡ p → Exactly p l → Exactly q l
plain-call {l = l} e x = subst (λ y. Exactly y l) (sym e) x

-- an `Envelope`, which `new` makes with the order's number of its points: its methods answer by the same rules
pub kept-call : {A : Type 0} {ps : List Float} {z : ℤ} {r way rule : Paper A} {l : List Asked} → Kept ps z r way rule → z ≡ kept_of ps → Exactly rule l → Exactly r l
kept-call k e x = plain-call (k.ruled e) x

-- ---- chords of a profile: the numbers that they are written to

pub segments-call : {xs : List Float} {tol : Float} {r : (Result ℕ Refusal)} {out out' : List Float} {l : List Asked} → Segmented xs tol r out out' → Exactly (segments_of xs tol (length out / 5)) l → Exactly (paper_of r) l
unfolding refusal_of chords.count_of
segments-call {xs} {tol} {r} {out} h x = exactly-as (paper_of r) (ap refusal_of h.answer ∙ same (segments_of xs tol (length out / 5))) x
  where
    same : (p : Paper (List Chord)) → refusal_of (chords.count_of p) ≡ refusal_of p
    same (answers l) = refl
    same (refuses n) = refl

pub segments-left : (xs : List Float) (tol : Float) (c : Refusal) (out out' : List Float) → Segmented xs tol (Err c) out out' → (segments_of xs tol (length out / 5) ≡ refuses (reason_of c)) × (out' ≡ out)
unfolding over flat_of written_of chords.count_of
segments-left xs tol c out out' h = go (segments_of xs tol (length out / 5)) h.answer h.out
  where
    go : (p : Paper (List Chord)) → refuses (reason_of c) ≡ chords.count_of p → out' ≡ over (flat_of (written_of p)) out → (p ≡ refuses (reason_of c)) × (out' ≡ out)
    go (answers l) e o = absurd (no_answer (reason_of c) (length l) e)
    go (refuses n) e o = (same_number e, o)
