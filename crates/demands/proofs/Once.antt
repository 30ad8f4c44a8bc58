-- Two outcomes that meet the promise of a call, of the same inputs, are the same: the answer, and each lent buffer afterwards. Assumes nothing.
--
-- Each public call, by the law that covers it. A buffer that is lent to be read only is as it was. `X.Y` is the law Y of proofs/X of the crate named beside it.
--
-- equal: the promise is `answer ≡ rule`, or `buffer afterwards ≡ rule`
--   refusals  number; Refused: at
--   floats    least, greatest, abs, clean, is_minus_zero, is_usable
--   numbers   whole_part, whole_up, lesser, greater
--   stock     clean_spec, bin_of, cell_at, put_cell, cell_fits, same_cell, same_stamp, stock_with
--   reach     flip, cut_cell, lower, upper, low_of, reach_from
--   nose      segment_at, segments_good, track_of, alike, sampled, step
--   polygon   polygon_good, index_range, lowest, extent_of
--   changes   room, change_at, held_of, is_accepted, put_after
--   rings     rings_fit, raised_by, list_tests, first_bad_ring
--   queries   bins_at, shown, sure, most, join
--   streams   part_size; Got: brought, may_be_more, held
--   blocks    blocks_in, matches, renew_all, clear, renew_block, renew_changed
--   envelope  within, of the numbers of the part that is lent back; number_of, higher; Span: many
--   text      part, front, of the bytes that are lent back; part_count, same, read_whole, read_hex, read_eight, float
--   job_words read_line, read_number
--   job_run   fresh, resumed, finish
--   stock_lines refuse
--   stock_file fresh
--
-- alike: the promise is `paper_of answer ≡ rule` (same-result), or with a place `placed_of answer ≡ rule` (same-placed), and both papers are one to one
--   numbers   root, length (same-result)
--   stock     validate, cells_fit, bin (same-result)
--   changes   first_refusal, outcome, raised (same-placed); begin, step (same-deciding); asked_cells (same-result)
--   envelope  order_of, within_span, within_refusal, radius_at, radius_range (same-result)
--   insert    excess, penetration, eroded (same-result)
--   queries   volume, envelope_at (same-result)
--   stock_file finish (same-placed), line_count (same-result)
--   side_by_side compare (same-result)
--   blocks    kept_cells, range (same-result)
--
-- a record of equations: the answer and each lent buffer
--   stock     fill (filled-once)
--   polygon   swept_in (swept_once)
--   cuts      preview_tool, preview_cut, preview, preview_polygon, thread_cut, thread_cut_inner, drill (Proposals.proposed-once of changes)
--   changes   list_change (listed-once), commit_unasked (applied-once), apply (applied-kept-once), changes_to (Proposals.proposed-once of changes); list_of (Proposals.same-previewed of changes)
--   change_slices apply, read_changes, propose (Once of change_slices), apply_move (Once.moved-told-once of moves)
--   rings     remove_ring (removed-once), remove_rings (Once.stored-once of moves), left_of (left-of-once)
--   moves     apply_move (Once.moved-told-once of moves), from_parts (Once.rebuilt-told-once of moves), take_rings (taken-rings-once)
--   passes    check (checked-once); propose: propose (proposed-once)
--   blocks    renew (renewed-once), leave_block (left-once), range_kept (kept-once)
--   envelope  span_over (span-over-once), highest (highest-once)
--   envelope  held::Envelope: new (new-once), order (order-once), within (within-once, of the numbers), radius_at (radius-at-once), radius_range (radius-range-once)
--   profile   segments (Laws.segments-once of profile)
--   text      put, put_digits, put_decimal, put_hex, put_four, put_eight (put-once), ring_line (wrote-once)
--   job_answer cell_line, gen_line, refused_line, answer_line (wrote-once)
--   job_run   carry_out (Carrying.once of job_run; its two lists by the equations of `ChangesOver`), take_part (taken-once), output_line (wrote-once)
--   stock_lines take_line (Readings.line-once of stock_lines), stock_line, kept_cell_line, end_line (wrote-once)
--   stock_file take_part (Outcomes.part-once of stock_file), file_line (Outcomes.file-line-once of stock_file)
--   side_by_side chunk (Outcomes.chunk-once of side_by_side), file_refused, pair_refused (wrote-once)
--
-- The calls of the C boundary: proofs/Once of turning. What `streams` and `job_streams` read and write is not determined by a promise: docs/OPEN_ANSWERS.md.
use Rattle.std.specs.Prelude.{Option, Err, Ok, Result}
use mathlib.Core.Path.{◌≡◌, sym, ap, ap₂, ◌∙◌}
use mathlib.Core.List.{List, foldl}
use Prim.Native.Nat.{ℕ}
use lib.IntN.{ℤ}
use lib.Ieee.{Float}
use denote.Ref.{Bor}
use Rattle.refusals.specs.declared.Refusal.{Refusal}
use Rattle.refusals.specs.declared.Refused.{Refused}
use Rattle.refusals.specs.Number.{reason_of, reason_in, paper_of, placed_of}
use Rattle.refusals.specs.Paper.{Paper, Reason, refuses}
use Rattle.refusals.specs.Lent.{Lent}
use Rattle.refusals.proofs.OneToOne.{one-to-one, one-reason}
use Rattle.stock.specs.declared.TurnStockSpec.{TurnStockSpec}
use Rattle.stock.specs.declared.TurnChange.{TurnChange}
use Rattle.stock.specs.declared.TurnSide.{TurnSide}
use Rattle.stock.specs.declared.ZRange.{ZRange}
use Rattle.stock.specs.declared.TurnStock.{TurnStock}
use Rattle.stock.specs.Stock.{Filled}
use Rattle.stock.proofs.Count.{same_answer, no_answer}
use Rattle.envelope.specs.declared.held.Envelope.{Envelope}
use Rattle.envelope.specs.declared.Radii.{Radii}
use Rattle.envelope.specs.declared.Span.{Span}
use Rattle.envelope.specs.Halving.{kept_of, OrderKept, SpanOver, Highest, WithinKept, RadiusAtKept, RadiusRangeKept}
use Rattle.reach.specs.declared.Swept.{Swept}
use Rattle.changes.specs.Change.{ListedOne}
use Rattle.queries.specs.declared.Band.{Band}
use Rattle.blocks.specs.Way.{RangeKept}
use Rattle.passes.specs.declared.Verdict as verdict
use Rattle.passes.specs.declared.Verdict.TheVariants as says
use Rattle.passes.specs.Check.{Verdict, said_in, checked_paper, Checks}
use Rattle.passes.specs.declared.propose.Level.{Level}
use Rattle.passes.specs.Propose.{Proposes}
use Rattle.blocks.specs.Renew.{Renewed, Open, LeavesBlocks}
use Rattle.polygon.specs.Polygon.{Sweeps}
use Rattle.changes.specs.declared.Deciding.{Deciding}
use Rattle.changes.specs.Commit.{Committed, Applies, AppliesKept}
use Rattle.changes.specs.Decide.{Decides, deciding_paper}
use Rattle.rings.specs.declared.Removed.{Removed}
use Rattle.rings.specs.declared.RingCount.{RingCount}
use Rattle.rings.specs.declared.Ring.{Ring}
use Rattle.rings.specs.Remove.{RingStore, removed_paper, removed_tests, Removes, LeavesOf}
use Rattle.moves.specs.Move.{RingsLeft, TakesRings}
use Rattle.text.specs.Wrote.{Wrote, Put}
use Rattle.job_run.specs.declared.Run.{Run}
use Rattle.job_run.specs.declared.Taken.{Taken}
use Rattle.job_run.specs.Run.{State, Hold, byte_on, as_found, as_left, TakesPart}

-- ---- a promise that is an equation

-- the answer itself, or a buffer afterwards
pub equal : {A : Type 0} (a r r' : A) → r ≡ a → r' ≡ a → r ≡ r'
equal a r r' e e' = e ∙ sym e'

-- the answer through its paper, which is one to one
pub alike : {R A : Type 0} (paper : R → A) → ((r r' : R) → paper r ≡ paper r' → r ≡ r') → (a : A) (r r' : R) → paper r ≡ a → paper r' ≡ a → r ≡ r'
alike paper one a r r' e e' = one r r' (e ∙ sym e')

-- ---- what two papers that are the same say

same_number : {A : Type 0} {m n : Reason} → ◌≡◌ {A = Paper A} (refuses m) (refuses n) → m ≡ n
same_number h = cc

-- two refusals that say the same, their places with them
same-reason : (c d : Refused) → reason_in c ≡ reason_in d → c ≡ d
same-reason c d h = ap₂ (λ (w : Refusal) (p : Option ℕ). record { why = w; place = p }) (one-to-one c.why d.why (ap (λ (x : Reason). x.number) h)) (ap (λ (x : Reason). x.place) h)

-- ---- the paper of a result is one to one

pub same-result : {A : Type 0} (r r' : Result A Refusal) → paper_of r ≡ paper_of r' → r ≡ r'
same-result (Ok a) (Ok b) h = ap Ok (same_answer h)
same-result (Ok a) (Err d) h = absurd (no_answer _ _ (sym h))
same-result (Err c) (Ok b) h = absurd (no_answer _ _ h)
same-result (Err c) (Err d) h = ap Err (one-reason c d (same_number h))

-- the same, where a refusal may have a place
pub same-placed : {A : Type 0} (r r' : Result A Refused) → placed_of r ≡ placed_of r' → r ≡ r'
same-placed (Ok a) (Ok b) h = ap Ok (same_answer h)
same-placed (Ok a) (Err d) h = absurd (no_answer _ _ (sym h))
same-placed (Err c) (Ok b) h = absurd (no_answer _ _ h)
same-placed (Err c) (Err d) h = ap Err (same-reason c d (same_number h))

-- how far a list is decided
pub same-deciding : (r r' : Deciding) → deciding_paper r ≡ deciding_paper r' → r ≡ r'
same-deciding r r' h =
    let found = same-placed r.found r'.found (ap (λ (d : Decides). d.found) h) in
    λ i. record { s = (h i).spec; n = (h i).n; any = (h i).any; last = (h i).last; rises = (h i).rises; count = (h i).count; fall = (h i).fall; found = found i }

-- one ring taken, by the stock and by the tests
pub same-removed : (r r' : Result Removed Refused) → removed_paper r ≡ removed_paper r' → removed_tests r ≡ removed_tests r' → r ≡ r'
same-removed (Ok m) (Ok n) h u = ap₂ (λ (k : TurnStock) (t : ℕ). Ok (record { stock = k; tests = t })) (same_answer h) (same_answer u)
same-removed (Ok m) (Err d) h u = absurd (no_answer _ _ (sym h))
same-removed (Err c) (Ok n) h u = absurd (no_answer _ _ h)
same-removed (Err c) (Err d) h u = ap Err (same-reason c d (same_number h))

-- ---- promises with lent buffers

pub filled-once : (spec : TurnStockSpec) (edition : ℕ) (r r' : Result TurnStock Refusal) (cs cs₁ cs₂ : List Float) → Filled spec edition r cs cs₁ → Filled spec edition r' cs cs₂ → (r ≡ r') × (cs₁ ≡ cs₂)
filled-once spec edition r r' cs cs₁ cs₂ a b = (same-result r r' (a.answer ∙ sym b.answer), a.cells ∙ sym b.cells)

pub renewed-once : (spec : TurnStockSpec) (cs : List Float) (r r' : Result ℕ Refusal) (bs bs₁ bs₂ : List Float) → Renewed spec cs r bs bs₁ → Renewed spec cs r' bs bs₂ → (r ≡ r') × (bs₁ ≡ bs₂)
renewed-once spec cs r r' bs bs₁ bs₂ a b = (same-result r r' (a.answer ∙ sym b.answer), a.numbers ∙ sym b.numbers)

pub left-once : (s : TurnStockSpec) (n : ℕ) (cs : List Float) (o : Open) (i r r' : ℕ) (bs₁ bs₂ : List Float) → LeavesBlocks s n cs o i r bs₁ → LeavesBlocks s n cs o i r' bs₂ → (r ≡ r') × (bs₁ ≡ bs₂)
left-once s n cs o i r r' bs₁ bs₂ a b = (a.block ∙ sym b.block, a.numbers ∙ sym b.numbers)

pub kept-once : (spec : TurnStockSpec) (n : ℕ) (cs bs : List Float) (lo hi : Float) (r r' : Option Band) → RangeKept spec n cs bs lo hi r → RangeKept spec n cs bs lo hi r' → r ≡ r'
kept-once spec n cs bs lo hi r r' a b = a.found ∙ sym b.found

pub listed-once : (k k₁ k₂ : ℕ) (c : TurnChange) (is is₁ is₂ : List ℕ) (xs xs₁ xs₂ : List Float) → ListedOne k k₁ c is is₁ xs xs₁ → ListedOne k k₂ c is is₂ xs xs₂ → (k₁ ≡ k₂) × (is₁ ≡ is₂) × (xs₁ ≡ xs₂)
listed-once k k₁ k₂ c is is₁ is₂ xs xs₁ xs₂ a b = (a.count ∙ sym b.count, a.indices ∙ sym b.indices, a.numbers ∙ sym b.numbers)

pub swept_once : (ps : List Float) (side : TurnSide) (excess : Float) (b : ZRange) (lo hi : Float) (start end : Option Float) (r r' : Swept) → Sweeps ps side excess b lo hi start end r → Sweeps ps side excess b lo hi start end r' → r ≡ r'
swept_once ps side excess b lo hi start end r r' m n =
    ap₂ (λ (x y : Option Float). record { low = x; high = y }) (m.low ∙ sym n.low) (m.high ∙ sym n.high)

pub applied-once : (k : TurnStock) (p : Paper Committed) (r r' : Result TurnStock Refused) (cs cs₁ cs₂ : List Float) → Applies k p r cs cs₁ → Applies k p r' cs cs₂ → (r ≡ r') × (cs₁ ≡ cs₂)
applied-once k p r r' cs cs₁ cs₂ a b = (same-placed r r' (a.answer ∙ sym b.answer), a.cells ∙ sym b.cells)

pub applied-kept-once : (k : TurnStock) (p : Paper Committed) (r r' : Result TurnStock Refused) (cs cs₁ cs₂ bs bs₁ bs₂ : List Float) → AppliesKept k p r cs cs₁ bs bs₁ → AppliesKept k p r' cs cs₂ bs bs₂ → (r ≡ r') × (cs₁ ≡ cs₂) × (bs₁ ≡ bs₂)
applied-kept-once k p r r' cs cs₁ cs₂ bs bs₁ bs₂ a b = let w = applied-once k p r r' cs cs₁ cs₂ a.left b.left in (w.0, w.1, a.kept ∙ sym b.kept)

pub taken-rings-once : (p : Paper RingsLeft) (r r' : Result RingCount Refused) (xs xs₁ xs₂ : List Float) → TakesRings p r xs xs₁ → TakesRings p r' xs xs₂ → (r ≡ r') × (xs₁ ≡ xs₂)
taken-rings-once p r r' xs xs₁ xs₂ a b = (same-placed r r' (a.answer ∙ sym b.answer), a.rings ∙ sym b.rings)

-- a verdict by what it says
same-verdict : (v w : verdict.Verdict) → said_in v ≡ said_in w → v ≡ w
same-verdict (says.Yes k) (says.Yes k') h = let e : k ≡ k' = cc in ap says.Yes e
same-verdict (says.Yes k) (says.CutFails j d) h = cc
same-verdict (says.Yes k) (says.BinFails j) h = cc
same-verdict (says.CutFails i c) (says.Yes k) h = cc
same-verdict (says.CutFails i c) (says.CutFails j d) h =
    let e : i ≡ j = cc in
    let n : (reason_of c).number ≡ (reason_of d).number = cc in
    ap₂ says.CutFails e (one-to-one c d n)
same-verdict (says.CutFails i c) (says.BinFails j) h = cc
same-verdict (says.BinFails i) (says.Yes k) h = cc
same-verdict (says.BinFails i) (says.CutFails j d) h = cc
same-verdict (says.BinFails i) (says.BinFails j) h = let e : i ≡ j = cc in ap says.BinFails e

-- a check: its answer, the cells and the kept numbers afterwards
same-checked : (r r' : Result verdict.Verdict Refusal) → checked_paper r ≡ checked_paper r' → r ≡ r'
same-checked (Ok v) (Ok w) h = ap Ok (same-verdict v w (same_answer h))
same-checked (Ok v) (Err d) h = absurd (no_answer _ _ (sym h))
same-checked (Err c) (Ok w) h = absurd (no_answer _ _ h)
same-checked (Err c) (Err d) h = ap Err (one-reason c d (same_number h))

pub checked-once : (k : TurnStock) (cs : List Float) (p : Paper Verdict) (r r' : Result verdict.Verdict Refusal) (es es₁ es₂ bs bs₁ bs₂ : List Float) → Checks k cs p r es es₁ bs bs₁ → Checks k cs p r' es es₂ bs bs₂ → (r ≡ r') × (es₁ ≡ es₂) × (bs₁ ≡ bs₂)
checked-once k cs p r r' es es₁ es₂ bs bs₁ bs₂ a b = (same-checked r r' (a.answer ∙ sym b.answer), a.cells ∙ sym b.cells, a.kept ∙ sym b.kept)

-- a proposal: its answer and the three lists afterwards
pub proposed-once : (p : Paper (List Level)) (r r' : Result ℕ Refusal) (ks ks₁ ks₂ : List ℕ) (xs xs₁ xs₂ : List Float) (ps ps₁ ps₂ : List ℕ) → Proposes p r ks ks₁ xs xs₁ ps ps₁ → Proposes p r' ks ks₂ xs xs₂ ps ps₂ → (r ≡ r') × (ks₁ ≡ ks₂) × (xs₁ ≡ xs₂) × (ps₁ ≡ ps₂)
proposed-once p r r' ks ks₁ ks₂ xs xs₁ xs₂ ps ps₁ ps₂ a b = (same-result r r' (a.answer ∙ sym b.answer), a.kinds ∙ sym b.kinds, a.numbers ∙ sym b.numbers, a.parts ∙ sym b.parts)

pub removed-once : (k : TurnStock) (xs : List Float) (p : Paper RingStore) (m : ℕ) (r r' : Result Removed Refused) (xs₁ xs₂ : List Float) → Removes k xs p m r xs₁ → Removes k xs p m r' xs₂ → (r ≡ r') × (xs₁ ≡ xs₂)
removed-once k xs p m r r' xs₁ xs₂ a b = (same-removed r r' (a.answer ∙ sym b.answer) (a.tests ∙ sym b.tests), a.store ∙ sym b.store)

pub left-of-once : (xs : List Float) (p : Paper (List Ring)) (r r' : Result ℕ Refusal) (xs₁ xs₂ : List Float) → LeavesOf xs p r xs₁ → LeavesOf xs p r' xs₂ → (r ≡ r') × (xs₁ ≡ xs₂)
left-of-once xs p r r' xs₁ xs₂ a b = (same-result r r' (a.answer ∙ sym b.answer), a.store ∙ sym b.store)

-- ---- an envelope that is kept

-- a new one: the lent points where they are lent, and their number
pub new-once : (ps : Bor (List Float)) (r r' : Envelope) → (r.points ≡ ps) × (r.order ≡ kept_of ps.now) → (r'.points ≡ ps) × (r'.order ≡ kept_of ps.now) → r ≡ r'
new-once ps r r' a b = ap₂ (λ (p : Bor (List Float)) (z : ℤ). record { points = p; order = z }) (a.0 ∙ sym b.0) (a.1 ∙ sym b.1)

-- what a method finds over the same points and number, whether the number is that of the points or not
pub order-once : (ps : List Float) (z : ℤ) (r r' : Result ℤ Refusal) → OrderKept ps z r → OrderKept ps z r' → r ≡ r'
order-once ps z r r' a b = same-result r r' (a.found ∙ sym b.found)

pub within-once : (ps : List Float) (z : ℤ) (lo hi : Float) (l l' : List Float) → WithinKept ps z lo hi l → WithinKept ps z lo hi l' → l ≡ l'
within-once ps z lo hi l l' a b = a.found ∙ sym b.found

-- a part of a rule, of any number beside the points
pub span-over-once : (ps : List Float) (z : ℤ) (lo hi : Float) (r r' : Span) → SpanOver ps z lo hi r → SpanOver ps z lo hi r' → r ≡ r'
span-over-once ps z lo hi r r' a b = a.found ∙ sym b.found

pub highest-once : (ps : List Float) (z : ℤ) (u : Float) (r r' : Option Float) → Highest ps z u r → Highest ps z u r' → r ≡ r'
highest-once ps z u r r' a b = a.found ∙ sym b.found

pub radius-at-once : (ps : List Float) (z : ℤ) (u : Float) (r r' : Result (Option Float) Refusal) → RadiusAtKept ps z u r → RadiusAtKept ps z u r' → r ≡ r'
radius-at-once ps z u r r' a b = same-result r r' (a.found ∙ sym b.found)

pub radius-range-once : (ps : List Float) (z : ℤ) (lo hi : Float) (r r' : Result (Option Radii) Refusal) → RadiusRangeKept ps z lo hi r → RadiusRangeKept ps z lo hi r' → r ≡ r'
radius-range-once ps z lo hi r r' a b = same-result r r' (a.found ∙ sym b.found)

-- ---- a job

-- a text put whole or not at all: the place after it, and the buffer
pub put-once : (l : List ℕ) (i : ℕ) (t m m' : List ℕ) (j j' : ℕ) → Put l i t m j → Put l i t m' j' → (j ≡ j') × (m ≡ m')
put-once l i t m m' j j' a b = (a.end ∙ sym b.end, a.text ∙ sym b.text)

-- a line written to a lent buffer, and how many bytes it has
pub wrote-once : (l : List ℕ) (i : ℕ) (t m m' : List ℕ) (j j' : ℕ) → Wrote l i t m j → Wrote l i t m' j' → (j ≡ j') × (m ≡ m')
wrote-once l i t m m' j j' a b = (a.end ∙ sym b.end, a.text ∙ sym b.text)

-- bytes taken: the run and the count of bytes held, the cells, the rings and the bytes of the unfinished line
pub taken-once : (run : Run) (len : ℕ) (cells cells' rings rings' : Lent Float) (line line' : Lent ℕ) (bytes : List ℕ) (r r' : Taken) → as_found run len cells rings line ≡ as_found run len cells' rings' line'
    → TakesPart run len cells rings line bytes r → TakesPart run len cells' rings' line' bytes r'
    → (r ≡ r') × (cells.exit.now ≡ cells'.exit.now) × (rings.exit.now ≡ rings'.exit.now) × (line.exit.now ≡ line'.exit.now)
taken-once run len cells cells' rings rings' line line' bytes r r' found a b =
    let e : as_left r.run r.len cells rings line ≡ as_left r'.run r'.len cells' rings' line' = a.same ∙ ap (λ (h : Hold). foldl byte_on h bytes) found ∙ sym b.same in
    let s = ap (λ (x : Hold). x.state) e in
    (ap₂ (λ (u : Run) (n : ℕ). record { run = u; len = n }) (ap (λ (x : State). x.run) s) (ap (λ (x : Hold). x.len) e), ap (λ (x : State). x.cells) s, ap (λ (x : State). x.rings) s, ap (λ (x : Hold). x.line) e)
