-- Two outcomes of a call of the C boundary that meet its promise, of the same inputs, are the same: the number that it returns, and what it leaves in each
-- out-parameter and each lent buffer. Assumes nothing.
--
-- Each call of include/turning.h, by the law that covers it:
--   header-once           turning_header
--   gives-once            turning_root, turning_length, turning_validate, turning_envelope_order
--   gives-two-once        turning_volume, turning_within
--   gives-bin-once        turning_bin
--   gives-cells-once      turning_new
--   gives-blocks-once     turning_renew
--   gives-changes-once    turning_preview, turning_preview_polygon, turning_thread_cut, turning_thread_cut_inner, turning_drill, turning_changes_to
--   gives-stock-once      turning_apply
--   gives-rings-once      turning_remove_ring
--   gives-move-once       turning_apply_move
--   gives-store-once      turning_from_parts
--   gives-chords-once     turning_segments
--   gives-checked-once    turning_check_passes
--   gives-passes-once     turning_propose_passes
--   gives-found-once      turning_radius_at, turning_excess, turning_penetration, turning_eroded
--   gives-found-two-once  turning_envelope_at, turning_range, turning_radius_range
--   takes-job-once        turning_job_take
--   ends-job-once         turning_job_finish
--   writes-job-once       turning_job_output
--   gives-once            turning_stock_lines
--   gives-file-line-once  turning_stock_line
--   takes-file-once       turning_read_part
--   gives-kept-once       turning_read_end
-- A buffer that is lent to be read only is as it was.
use Rattle.std.specs.Prelude.{Option}
use mathlib.Core.Path.{◌≡◌, sym, ap, ◌∙◌}
use mathlib.Core.List.{List}
use Prim.Native.Nat.{ℕ}
use lib.Ieee.{Float}
use Rattle.refusals.specs.Paper.{Paper}
use Rattle.stock.specs.declared.TurnStockSpec.{TurnStockSpec}
use Rattle.stock.specs.declared.Stamp.{Stamp}
use Rattle.stock.specs.declared.TurnStock.{TurnStock}
use Rattle.stock.specs.declared.TurnChange.{TurnChange}
use Rattle.stock.specs.declared.ZRange.{ZRange}
use Rattle.changes.specs.declared.ChangeList.{ChangeList}
use Rattle.changes.specs.Commit.{Committed}
use Rattle.rings.specs.declared.Ring.{Ring}
use Rattle.rings.specs.Remove.{RingStore}
use Rattle.moves.specs.Move.{Left}
use Rattle.profile.specs.Chords.{Chord}
use Rattle.passes.specs.declared.propose.Level.{Level}
use Rattle.passes.specs.Check.{Verdict}
use Rattle.job_run.specs.declared.Run.{Run}
use Rattle.job_run.specs.Run.{State, Hold}
use Rattle.stock_file.specs.declared.Kept.{Kept}
use Rattle.turning.specs.Jobs.{TakesJob, EndsJob, WritesJob}
use Rattle.turning.specs.JobCalls.{Flat}
use Rattle.turning.specs.Files.{TakesFile, GivesKept, GivesFileLine}
use Rattle.turning.specs.Passes.{GivesChecked, GivesPasses}
use Rattle.turning.specs.Boundary.{kept_out, Gives, GivesTwo, GivesBin, GivesCells, GivesBlocks, GivesList, GivesChanges, GivesStock, GivesRings, GivesMove, GivesStore, GivesChords, GivesFound, GivesFoundTwo}

-- the number of the header
pub header-once : (r r' : ℕ) → r ≡ 7 → r' ≡ 7 → r ≡ r'
header-once r r' a b = a ∙ sym b

-- one number
pub gives-once : {A : Type 0} (p : Paper A) (r r' : ℕ) (x x₁ x₂ : A) → Gives p r x x₁ → Gives p r' x x₂ → (r ≡ r') × (x₁ ≡ x₂)
gives-once p r r' x x₁ x₂ a b = (a.code ∙ sym b.code, a.out ∙ sym b.out)

-- two numbers
pub gives-two-once : {A B C : Type 0} (f : A → B) (g : A → C) (p : Paper A) (r r' : ℕ) (x x₁ x₂ : B) (y y₁ y₂ : C) → GivesTwo f g p r x x₁ y y₁ → GivesTwo f g p r' x x₂ y y₂ → (r ≡ r') × (x₁ ≡ x₂) × (y₁ ≡ y₂)
gives-two-once f g p r r' x x₁ x₂ y y₁ y₂ a b = (a.code ∙ sym b.code, a.one ∙ sym b.one, a.other ∙ sym b.other)

-- a bin's two ends
pub gives-bin-once : (p : Paper ZRange) (r r' : ℕ) (x x₁ x₂ y y₁ y₂ : Float) → GivesBin p r x x₁ y y₁ → GivesBin p r' x x₂ y y₂ → (r ≡ r') × (x₁ ≡ x₂) × (y₁ ≡ y₂)
gives-bin-once p r r' x x₁ x₂ y y₁ y₂ a b = (a.code ∙ sym b.code, a.start ∙ sym b.start, a.end ∙ sym b.end)

-- kept numbers, of the same cells
kept-once : {A : Type 0} (spec : TurnStockSpec) (p : Paper A) (cs₁ cs₂ bs bs₁ bs₂ : List Float) → cs₁ ≡ cs₂ → bs₁ ≡ kept_out spec cs₁ p bs → bs₂ ≡ kept_out spec cs₂ p bs → bs₁ ≡ bs₂
kept-once spec p cs₁ cs₂ bs bs₁ bs₂ e a b = a ∙ ap (λ (x : List Float). kept_out spec x p bs) e ∙ sym b

-- fresh cells, their kept numbers and the generation
pub gives-cells-once : (spec : TurnStockSpec) (p : Paper ℕ) (r r' : ℕ) (cs cs₁ cs₂ bs bs₁ bs₂ : List Float) (g g₁ g₂ : ℕ) → GivesCells spec p r cs cs₁ bs bs₁ g g₁ → GivesCells spec p r' cs cs₂ bs bs₂ g g₂ → (r ≡ r') × (cs₁ ≡ cs₂) × (bs₁ ≡ bs₂) × (g₁ ≡ g₂)
gives-cells-once spec p r r' cs cs₁ cs₂ bs bs₁ bs₂ g g₁ g₂ a b =
    let cells = a.cells ∙ sym b.cells in
    (a.code ∙ sym b.code, cells, kept-once spec p cs₁ cs₂ bs bs₁ bs₂ cells a.kept b.kept, a.generation ∙ sym b.generation)

-- the kept numbers of cells
pub gives-blocks-once : (spec : TurnStockSpec) (cs : List Float) (p : Paper ℕ) (r r' : ℕ) (bs bs₁ bs₂ : List Float) → GivesBlocks spec cs p r bs bs₁ → GivesBlocks spec cs p r' bs bs₂ → (r ≡ r') × (bs₁ ≡ bs₂)
gives-blocks-once spec cs p r r' bs bs₁ bs₂ a b = (a.code ∙ sym b.code, a.kept ∙ sym b.kept)

-- a list: its count, its edition and its generation
pub gives-list-once : (p : Paper ChangeList) (r r' k k₁ k₂ e e₁ e₂ g g₁ g₂ : ℕ) → GivesList p r k k₁ e e₁ g g₁ → GivesList p r' k k₂ e e₂ g g₂ → (r ≡ r') × (k₁ ≡ k₂) × (e₁ ≡ e₂) × (g₁ ≡ g₂)
gives-list-once p r r' k k₁ k₂ e e₁ e₂ g g₁ g₂ a b = (a.code ∙ sym b.code, a.count ∙ sym b.count, a.edition ∙ sym b.edition, a.generation ∙ sym b.generation)

-- changes: their list, the indices and the numbers
pub gives-changes-once : (st : Stamp) (p : Paper (List TurnChange)) (r r' k k₁ k₂ e e₁ e₂ g g₁ g₂ : ℕ) (is is₁ is₂ : List ℕ) (xs xs₁ xs₂ : List Float) → GivesChanges st p r k k₁ e e₁ g g₁ is is₁ xs xs₁ → GivesChanges st p r' k k₂ e e₂ g g₂ is is₂ xs xs₂
    → (r ≡ r') × (k₁ ≡ k₂) × (e₁ ≡ e₂) × (g₁ ≡ g₂) × (is₁ ≡ is₂) × (xs₁ ≡ xs₂)
gives-changes-once st p r r' k k₁ k₂ e e₁ e₂ g g₁ g₂ is is₁ is₂ xs xs₁ xs₂ a b =
    let l = gives-list-once _ r r' k k₁ k₂ e e₁ e₂ g g₁ g₂ a.list b.list in
    (l.0, l.1, l.2, l.3, a.indices ∙ sym b.indices, a.numbers ∙ sym b.numbers)

-- the cells, their kept numbers and the generation
pub gives-stock-once : (spec : TurnStockSpec) (p : Paper Committed) (r r' : ℕ) (cs cs₁ cs₂ bs bs₁ bs₂ : List Float) (g g₁ g₂ q q₁ q₂ : ℕ) → GivesStock spec p r cs cs₁ bs bs₁ g g₁ q q₁ → GivesStock spec p r' cs cs₂ bs bs₂ g g₂ q q₂ → (r ≡ r') × (cs₁ ≡ cs₂) × (bs₁ ≡ bs₂) × (g₁ ≡ g₂) × (q₁ ≡ q₂)
gives-stock-once spec p r r' cs cs₁ cs₂ bs bs₁ bs₂ g g₁ g₂ q q₁ q₂ a b =
    let cells = a.cells ∙ sym b.cells in
    (a.code ∙ sym b.code, cells, kept-once spec p cs₁ cs₂ bs bs₁ bs₂ cells a.kept b.kept, a.generation ∙ sym b.generation, a.position ∙ sym b.position)

-- the rings, their count, the generation and the tests
pub gives-rings-once : (p : Paper RingStore) (m r r' : ℕ) (xs xs₁ xs₂ : List Float) (k k₁ k₂ g g₁ g₂ t t₁ t₂ q q₁ q₂ : ℕ) → GivesRings p m r xs xs₁ k k₁ g g₁ t t₁ q q₁ → GivesRings p m r' xs xs₂ k k₂ g g₂ t t₂ q q₂ → (r ≡ r') × (xs₁ ≡ xs₂) × (k₁ ≡ k₂) × (g₁ ≡ g₂) × (t₁ ≡ t₂) × (q₁ ≡ q₂)
gives-rings-once p m r r' xs xs₁ xs₂ k k₁ k₂ g g₁ g₂ t t₁ t₂ q q₁ q₂ a b =
    (a.code ∙ sym b.code, a.rings ∙ sym b.rings, a.count ∙ sym b.count, a.generation ∙ sym b.generation, a.tests ∙ sym b.tests, a.position ∙ sym b.position)

-- the cells, their kept numbers, the rings, their count, the generation and the tests
pub gives-move-once : (spec : TurnStockSpec) (p : Paper Left) (ms : List ℕ) (r r' : ℕ) (cs cs₁ cs₂ bs bs₁ bs₂ xs xs₁ xs₂ : List Float) (k k₁ k₂ g g₁ g₂ : ℕ) (ts ts₁ ts₂ : List ℕ) (q q₁ q₂ : ℕ) → GivesMove spec p ms r cs cs₁ bs bs₁ xs xs₁ k k₁ g g₁ ts ts₁ q q₁ → GivesMove spec p ms r' cs cs₂ bs bs₂ xs xs₂ k k₂ g g₂ ts ts₂ q q₂
    → (r ≡ r') × (cs₁ ≡ cs₂) × (bs₁ ≡ bs₂) × (xs₁ ≡ xs₂) × (k₁ ≡ k₂) × (g₁ ≡ g₂) × (ts₁ ≡ ts₂) × (q₁ ≡ q₂)
gives-move-once spec p ms r r' cs cs₁ cs₂ bs bs₁ bs₂ xs xs₁ xs₂ k k₁ k₂ g g₁ g₂ ts ts₁ ts₂ q q₁ q₂ a b =
    let cells = a.cells ∙ sym b.cells in
    (a.code ∙ sym b.code, cells, kept-once spec p cs₁ cs₂ bs bs₁ bs₂ cells a.kept b.kept, a.rings ∙ sym b.rings, a.count ∙ sym b.count, a.generation ∙ sym b.generation, a.tests ∙ sym b.tests, a.position ∙ sym b.position)

-- the kept numbers, the rings, their count, the generation and the tests, of a rebuilt stock
pub gives-store-once : (spec : TurnStockSpec) (cs : List Float) (p : Paper (List Ring)) (ms : List ℕ) (r r' : ℕ) (bs bs₁ bs₂ xs xs₁ xs₂ : List Float) (k k₁ k₂ g g₁ g₂ : ℕ) (ts ts₁ ts₂ : List ℕ) (q q₁ q₂ : ℕ) → GivesStore spec cs p ms r bs bs₁ xs xs₁ k k₁ g g₁ ts ts₁ q q₁ → GivesStore spec cs p ms r' bs bs₂ xs xs₂ k k₂ g g₂ ts ts₂ q q₂
    → (r ≡ r') × (bs₁ ≡ bs₂) × (xs₁ ≡ xs₂) × (k₁ ≡ k₂) × (g₁ ≡ g₂) × (ts₁ ≡ ts₂) × (q₁ ≡ q₂)
gives-store-once spec cs p ms r r' bs bs₁ bs₂ xs xs₁ xs₂ k k₁ k₂ g g₁ g₂ ts ts₁ ts₂ q q₁ q₂ a b =
    (a.code ∙ sym b.code, a.kept ∙ sym b.kept, a.rings ∙ sym b.rings, a.count ∙ sym b.count, a.generation ∙ sym b.generation, a.tests ∙ sym b.tests, a.position ∙ sym b.position)

-- the chords and their count
pub gives-chords-once : (p : Paper (List Chord)) (r r' : ℕ) (xs xs₁ xs₂ : List Float) (k k₁ k₂ : ℕ) → GivesChords p r xs xs₁ k k₁ → GivesChords p r' xs xs₂ k k₂ → (r ≡ r') × (xs₁ ≡ xs₂) × (k₁ ≡ k₂)
gives-chords-once p r r' xs xs₁ xs₂ k k₁ k₂ a b = (a.code ∙ sym b.code, a.chords ∙ sym b.chords, a.count ∙ sym b.count)

-- the cells and their kept numbers after a check of passes, the verdict, its place and its reason, and the generation
pub gives-checked-once : (k : TurnStock) (cs : List Float) (p : Paper Verdict) (r r' : ℕ) (es es₁ es₂ bs bs₁ bs₂ : List Float) (v v₁ v₂ x x₁ x₂ q q₁ q₂ g g₁ g₂ : ℕ) → GivesChecked k cs p r es es₁ bs bs₁ v v₁ x x₁ q q₁ g g₁ → GivesChecked k cs p r' es es₂ bs bs₂ v v₂ x x₂ q q₂ g g₂
    → (r ≡ r') × (es₁ ≡ es₂) × (bs₁ ≡ bs₂) × (v₁ ≡ v₂) × (x₁ ≡ x₂) × (q₁ ≡ q₂) × (g₁ ≡ g₂)
gives-checked-once k cs p r r' es es₁ es₂ bs bs₁ bs₂ v v₁ v₂ x x₁ x₂ q q₁ q₂ g g₁ g₂ a b =
    let s = a.said in
    let t = b.said in
    (s.code ∙ sym t.code, a.cells ∙ sym b.cells, a.kept ∙ sym b.kept, s.verdict ∙ sym t.verdict, s.place ∙ sym t.place, s.reason ∙ sym t.reason, s.generation ∙ sym t.generation)

-- the three lists of proposed passes, and their count
pub gives-passes-once : (p : Paper (List Level)) (r r' : ℕ) (ks ks₁ ks₂ : List ℕ) (xs xs₁ xs₂ : List Float) (ps ps₁ ps₂ : List ℕ) (c c₁ c₂ : ℕ) → GivesPasses p r ks ks₁ xs xs₁ ps ps₁ c c₁ → GivesPasses p r' ks ks₂ xs xs₂ ps ps₂ c c₂
    → (r ≡ r') × (ks₁ ≡ ks₂) × (xs₁ ≡ xs₂) × (ps₁ ≡ ps₂) × (c₁ ≡ c₂)
gives-passes-once p r r' ks ks₁ ks₂ xs xs₁ xs₂ ps ps₁ ps₂ c c₁ c₂ a b =
    (a.code ∙ sym b.code, a.kinds ∙ sym b.kinds, a.numbers ∙ sym b.numbers, a.parts ∙ sym b.parts, a.count ∙ sym b.count)

-- one number, if it is found
pub gives-found-once : {A : Type 0} (p : Paper (Option A)) (r r' f f₁ f₂ : ℕ) (x x₁ x₂ : A) → GivesFound p r f f₁ x x₁ → GivesFound p r' f f₂ x x₂ → (r ≡ r') × (f₁ ≡ f₂) × (x₁ ≡ x₂)
gives-found-once p r r' f f₁ f₂ x x₁ x₂ a b = (a.code ∙ sym b.code, a.found ∙ sym b.found, a.out ∙ sym b.out)

-- two numbers, if they are found
pub gives-found-two-once : {A : Type 0} (g h : A → Float) (p : Paper (Option A)) (r r' f f₁ f₂ : ℕ) (x x₁ x₂ y y₁ y₂ : Float) → GivesFoundTwo g h p r f f₁ x x₁ y y₁ → GivesFoundTwo g h p r' f f₂ x x₂ y y₂ → (r ≡ r') × (f₁ ≡ f₂) × (x₁ ≡ x₂) × (y₁ ≡ y₂)
gives-found-two-once g h p r r' f f₁ f₂ x x₁ x₂ y y₁ y₂ a b = (a.code ∙ sym b.code, a.found ∙ sym b.found, a.one ∙ sym b.one, a.other ∙ sym b.other)

-- a job's words, its bar, its cells and rings and the unfinished line
pub takes-job-once : (h : Hold) (r r' : ℕ) (ws ws₁ ws₂ : List ℕ) (bar bar₁ bar₂ cs₁ cs₂ rs₁ rs₂ : List Float) (l₁ l₂ : List ℕ) → TakesJob h r ws ws₁ bar bar₁ cs₁ rs₁ l₁ → TakesJob h r' ws ws₂ bar bar₂ cs₂ rs₂ l₂
    → (r ≡ r') × (ws₁ ≡ ws₂) × (bar₁ ≡ bar₂) × (cs₁ ≡ cs₂) × (rs₁ ≡ rs₂) × (l₁ ≡ l₂)
takes-job-once h r r' ws ws₁ ws₂ bar bar₁ bar₂ cs₁ cs₂ rs₁ rs₂ l₁ l₂ a b =
    (a.code ∙ sym b.code, a.kept.words ∙ sym b.kept.words, a.kept.numbers ∙ sym b.kept.numbers, a.cells ∙ sym b.cells, a.rings ∙ sym b.rings, a.line ∙ sym b.line)

-- a job's refusal and its line
pub ends-job-once : (e : Run) (r r' l l₁ l₂ : ℕ) → EndsJob e r l l₁ → EndsJob e r' l l₂ → (r ≡ r') × (l₁ ≡ l₂)
ends-job-once e r r' l l₁ l₂ a b = (a.code ∙ sym b.code, a.line ∙ sym b.line)

-- a line of its answer, and its length
pub writes-job-once : (st : State) (k r r' n₁ n₂ : ℕ) (out out₁ out₂ : List ℕ) → WritesJob st k r n₁ out out₁ → WritesJob st k r' n₂ out out₂ → (r ≡ r') × (n₁ ≡ n₂) × (out₁ ≡ out₂)
writes-job-once st k r r' n₁ n₂ out out₁ out₂ a b = (a.code ∙ sym b.code, a.line.wrote.end ∙ sym b.line.wrote.end, a.line.wrote.text ∙ sym b.line.wrote.text)

-- a line of a stock's file, and its length
pub gives-file-line-once : (p : Paper (List ℕ)) (r r' n n₁ n₂ : ℕ) (l l₁ l₂ : List ℕ) → GivesFileLine p r n n₁ l l₁ → GivesFileLine p r' n n₂ l l₂ → (r ≡ r') × (n₁ ≡ n₂) × (l₁ ≡ l₂)
gives-file-line-once p r r' n n₁ n₂ l l₁ l₂ a b = (a.code ∙ sym b.code, a.len ∙ sym b.len, a.line ∙ sym b.line)

-- a file's words, its bar, the lent room and the unfinished line
pub takes-file-once : (f g g' : Flat) (s : List ℕ) (r r' : ℕ) → TakesFile f g s r → TakesFile f g' s r' → (r ≡ r') × (g ≡ g')
takes-file-once f g g' s r r' a b = (a.code ∙ sym b.code, a.left ∙ sym b.left)

-- what a file tells: two counts, an edition, and the line of a refusal
pub gives-kept-once : (p : Paper Kept) (r r' n n₁ n₂ m m₁ m₂ e e₁ e₂ l l₁ l₂ : ℕ) → GivesKept p r n n₁ m m₁ e e₁ l l₁ → GivesKept p r' n n₂ m m₂ e e₂ l l₂ → (r ≡ r') × (n₁ ≡ n₂) × (m₁ ≡ m₂) × (e₁ ≡ e₂) × (l₁ ≡ l₂)
gives-kept-once p r r' n n₁ n₂ m m₁ m₂ e e₁ e₂ l l₁ l₂ a b = (a.code ∙ sym b.code, a.cells ∙ sym b.cells, a.rings ∙ sym b.rings, a.edition ∙ sym b.edition, a.line ∙ sym b.line)
