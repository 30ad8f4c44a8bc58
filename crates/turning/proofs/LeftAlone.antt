-- A REFUSAL LEAVES EVERY BUFFER AND EVERY OUT-PARAMETER of a call of the C boundary: a law for each kind of promise that proofs/Once lists the calls of. A call that returns a number
-- other than 0 is refused, with that number (`refused`), and all that it was lent to write is as it was. What it is lent to read alone it cannot write.
-- `turning_read_part` alone writes where it is refused: beside the caller's own reading state (state, bar, held line) the lent room, into which the lines before the refused one were read, is the only place where a refusal
-- writes. What that call leaves is said of it below (`part_left`), and of the room by `file-room-left` (`demands`, `proofs/Files`). Assumes nothing.
use Rattle.std.specs.Prelude.{Option}
use mathlib.Core.Path.{◌≡◌, refl, sym, ap, ◌∙◌}
use mathlib.Core.Bool.{true}
use mathlib.Core.List.{List}
use Prim.Native.Nat.{ℕ, ◌<◌}
use native.Mathlib.Omega.{arith}
use lib.Ieee.{Float}
use Rattle.floats.specs.Pick.{pick_true}
use Rattle.refusals.specs.Paper.{Paper, Reason, answers, refuses, only, at, onward}
use Rattle.refusals.specs.Lent.{over}
use Rattle.stock.specs.declared.TurnStockSpec.{TurnStockSpec}
use Rattle.stock.specs.declared.Stamp.{Stamp}
use Rattle.stock.specs.declared.TurnStock.{TurnStock}
use Rattle.stock.specs.declared.TurnChange.{TurnChange}
use Rattle.stock.specs.declared.ZRange.{ZRange}
use Rattle.changes.specs.Change.{numbers_of}
use Rattle.changes.specs.Commit.{Committed}
use Rattle.rings.specs.declared.Ring.{Ring}
use Rattle.rings.specs.Remove.{RingStore, rings_left_after}
use Rattle.moves.specs.Move.{Left}
use Rattle.profile.specs.Chords.{Chord, flat_of, written_of}
use Rattle.passes.specs.declared.propose.Level.{Level}
use Rattle.passes.specs.Check.{Verdict}
use Rattle.passes.specs.Propose.{sixes}
use Rattle.lines.specs.Hands.{Hand}
use Rattle.lines.proofs.Parts.{stopped-takes}
use Rattle.stock_lines.specs.Reading.{State, state, on_line}
use Rattle.stock_file.specs.declared.Kept.{Kept}
use Rattle.stock_file.specs.Read.{stopped, on_long, held_in}
use Rattle.turning.specs.JobCalls.{Flat}
use Rattle.turning.specs.Files.{refused_in, held_from, reading_from, taking_in, after_part, TakesFile, GivesKept, GivesFileLine}
use Rattle.turning.specs.Passes.{GivesChecked, GivesPasses}
use Rattle.turning.specs.Boundary.{code_of, place_out, Gives, GivesBin, GivesCells, GivesBlocks, GivesChanges, GivesStock, GivesTwo, GivesRings, GivesMove, GivesStore, GivesChords, GivesFound, GivesFoundTwo}

no_code : {r : ℕ} → r ≡ 0 → 0 < r → ⊥
no_code e h = omega arith

-- a number other than 0 is that of a refusal
pub refused : {A : Type 0} (p : Paper A) (r : ℕ) → r ≡ code_of p → 0 < r → (n : Reason) × (p ≡ refuses n) × (n.number ≡ r)
refused (answers a) r e h = absurd (no_code e h)
refused (refuses n) r e h = (n, refl, sym e)

-- `turning_root`, `turning_length`, `turning_validate`, `turning_envelope_order`, `turning_stock_lines`: the number
pub one_left : {A : Type 0} (p : Paper A) (r : ℕ) (x x' : A) → Gives p r x x' → 0 < r → x' ≡ x
one_left (answers a) r x x' g h = absurd (no_code g.code h)
one_left (refuses n) r x x' g h = g.out

-- `turning_volume`, `turning_within`: both numbers
pub two-left : {A B C : Type 0} {first : A → B} {second : A → C} (p : Paper A) (r : ℕ) (x x' : B) (y y' : C) → GivesTwo first second p r x x' y y' → 0 < r → (x' ≡ x) × (y' ≡ y)
two-left (answers a) r x x' y y' g h = absurd (no_code g.code h)
two-left (refuses n) r x x' y y' g h = (g.one, g.other)

-- `turning_bin`: both ends
pub bin-left : (p : Paper ZRange) (r : ℕ) (za za' zb zb' : Float) → GivesBin p r za za' zb zb' → 0 < r → (za' ≡ za) × (zb' ≡ zb)
bin-left (answers z) r za za' zb zb' g h = absurd (no_code g.code h)
bin-left (refuses n) r za za' zb zb' g h = (g.start, g.end)

-- `turning_new`: the cells, their kept numbers and the generation
pub cells_left : (spec : TurnStockSpec) (p : Paper ℕ) (r : ℕ) (cs cs' bs bs' : List Float) (k k' : ℕ) → GivesCells spec p r cs cs' bs bs' k k' → 0 < r → (cs' ≡ cs) × (bs' ≡ bs) × (k' ≡ k)
cells_left spec (answers n) r cs cs' bs bs' k k' g h = absurd (no_code g.code h)
cells_left spec (refuses n) r cs cs' bs bs' k k' g h = (g.cells, g.kept, g.generation)

-- `turning_renew`: the kept numbers
pub blocks-left : (spec : TurnStockSpec) (cs : List Float) (p : Paper ℕ) (r : ℕ) (bs bs' : List Float) → GivesBlocks spec cs p r bs bs' → 0 < r → bs' ≡ bs
blocks-left spec cs (answers n) r bs bs' g h = absurd (no_code g.code h)
blocks-left spec cs (refuses n) r bs bs' g h = g.kept

-- the previews and `turning_changes_to`: the count, the list's edition and generation, and both lists
pub changes-left : (st : Stamp) (p : Paper (List TurnChange)) (r k k' e e' j j' : ℕ) (is is' : List ℕ) (xs xs' : List Float) → GivesChanges st p r k k' e e' j j' is is' xs xs' → 0 < r → (k' ≡ k) × (e' ≡ e) × (j' ≡ j) × (is' ≡ is) × (xs' ≡ xs)
unfolding over numbers_of
changes-left st (answers l) r k k' e e' j j' is is' xs xs' g h = absurd (no_code g.list.code h)
changes-left st (refuses n) r k k' e e' j j' is is' xs xs' g h = (g.list.count, g.list.edition, g.list.generation, g.indices, g.numbers)

-- *position alone is written by a refusal: with the place of one that has it, else it stays, and where a call is accepted too
pub place-stays : {A : Type 0} (p : Paper A) (a : A) (q : ℕ) → p ≡ answers a → place_out p q ≡ q
place-stays {A} p a q e = ap (λ (x : Paper A). place_out x q) e

pub place_none : {A : Type 0} (p : Paper A) (n q : ℕ) → p ≡ refuses (only n) → place_out p q ≡ q
place_none {A} p n q e = ap (λ (x : Paper A). place_out x q) e

pub place-told : {A : Type 0} (p : Paper A) (n k q : ℕ) → p ≡ refuses (at n k) → place_out p q ≡ k
place-told {A} p n k q e = ap (λ (x : Paper A). place_out x q) e

-- `turning_apply`: the cells, their kept numbers and the generation
pub stock-left : (spec : TurnStockSpec) (p : Paper Committed) (r : ℕ) (cs cs' bs bs' : List Float) (k k' q q' : ℕ) → GivesStock spec p r cs cs' bs bs' k k' q q' → 0 < r → (cs' ≡ cs) × (bs' ≡ bs) × (k' ≡ k)
stock-left spec (answers m) r cs cs' bs bs' k k' q q' g h = absurd (no_code g.code h)
stock-left spec (refuses n) r cs cs' bs bs' k k' q q' g h = (g.cells, g.kept, g.generation)

-- `turning_remove_ring`: the rings, their count, the generation and the tests
pub rings-left : (p : Paper RingStore) (m r : ℕ) (xs xs' : List Float) (k k' j j' t t' q q' : ℕ) → GivesRings p m r xs xs' k k' j j' t t' q q' → 0 < r → (xs' ≡ xs) × (k' ≡ k) × (j' ≡ j) × (t' ≡ t)
unfolding rings_left_after onward
rings-left (answers s) m r xs xs' k k' j j' t t' q q' g h = absurd (no_code g.code h)
rings-left (refuses n) m r xs xs' k k' j j' t t' q q' g h = (g.rings, g.count, g.generation, g.tests)

-- `turning_apply_move`: the cells, their kept numbers, the rings, their count, the generation and the tests
pub move-left : (spec : TurnStockSpec) (p : Paper Left) (ms : List ℕ) (r : ℕ) (cs cs' bs bs' xs xs' : List Float) (k k' j j' : ℕ) (ts ts' : List ℕ) (q q' : ℕ) → GivesMove spec p ms r cs cs' bs bs' xs xs' k k' j j' ts ts' q q' → 0 < r → (cs' ≡ cs) × (bs' ≡ bs) × (xs' ≡ xs) × (k' ≡ k) × (j' ≡ j) × (ts' ≡ ts)
move-left spec (answers a) ms r cs cs' bs bs' xs xs' k k' j j' ts ts' q q' g h = absurd (no_code g.code h)
move-left spec (refuses n) ms r cs cs' bs bs' xs xs' k k' j j' ts ts' q q' g h = (g.cells, g.kept, g.rings, g.count, g.generation, g.tests)

-- `turning_from_parts`: the kept numbers, the rings, their count, the generation and the tests
pub store-left : (spec : TurnStockSpec) (cs : List Float) (p : Paper (List Ring)) (ms : List ℕ) (r : ℕ) (bs bs' xs xs' : List Float) (k k' j j' : ℕ) (ts ts' : List ℕ) (q q' : ℕ) → GivesStore spec cs p ms r bs bs' xs xs' k k' j j' ts ts' q q' → 0 < r → (bs' ≡ bs) × (xs' ≡ xs) × (k' ≡ k) × (j' ≡ j) × (ts' ≡ ts)
store-left spec cs (answers l) ms r bs bs' xs xs' k k' j j' ts ts' q q' g h = absurd (no_code g.code h)
store-left spec cs (refuses n) ms r bs bs' xs xs' k k' j j' ts ts' q q' g h = (g.kept, g.rings, g.count, g.generation, g.tests)

-- `turning_segments`: the chords and their count
pub chords-left : (p : Paper (List Chord)) (r : ℕ) (xs xs' : List Float) (k k' : ℕ) → GivesChords p r xs xs' k k' → 0 < r → (xs' ≡ xs) × (k' ≡ k)
unfolding over flat_of written_of
chords-left (answers l) r xs xs' k k' g h = absurd (no_code g.code h)
chords-left (refuses n) r xs xs' k k' g h = (g.chords, g.count)

-- `turning_check_passes`: the cells and the kept numbers afterwards, the verdict, its place and its reason, and the generation
pub checked-left : (s : TurnStock) (cs : List Float) (p : Paper Verdict) (r : ℕ) (es es' bs bs' : List Float) (v v' x x' q q' j j' : ℕ) → GivesChecked s cs p r es es' bs bs' v v' x x' q q' j j' → 0 < r → (es' ≡ es) × (bs' ≡ bs) × (v' ≡ v) × (x' ≡ x) × (q' ≡ q) × (j' ≡ j)
checked-left s cs (answers a) r es es' bs bs' v v' x x' q q' j j' g h = absurd (no_code g.said.code h)
checked-left s cs (refuses n) r es es' bs bs' v v' x x' q q' j j' g h = (g.cells, g.kept, g.said.verdict, g.said.place, g.said.reason, g.said.generation)

-- `turning_propose_passes`: the three lists and the count
pub passes-left : (p : Paper (List Level)) (r : ℕ) (ks ks' : List ℕ) (xs xs' : List Float) (ps ps' : List ℕ) (c c' : ℕ) → GivesPasses p r ks ks' xs xs' ps ps' c c' → 0 < r → (ks' ≡ ks) × (xs' ≡ xs) × (ps' ≡ ps) × (c' ≡ c)
unfolding over sixes
passes-left (answers l) r ks ks' xs xs' ps ps' c c' g h = absurd (no_code g.code h)
passes-left (refuses n) r ks ks' xs xs' ps ps' c c' g h = (g.kinds, g.numbers, g.parts, g.count)

-- `turning_radius_at`, `turning_excess`, `turning_penetration`, `turning_eroded`: whether there is one, and the radius or the distance
pub found_left : {A : Type 0} (p : Paper (Option A)) (r f f' : ℕ) (x x' : A) → GivesFound p r f f' x x' → 0 < r → (f' ≡ f) × (x' ≡ x)
found_left (answers a) r f f' x x' g h = absurd (no_code g.code h)
found_left (refuses n) r f f' x x' g h = (g.found, g.out)

-- `turning_envelope_at`, `turning_range`, `turning_radius_range`: whether there is anything, and both numbers
pub found-two-left : {A : Type 0} {first second : A → Float} (p : Paper (Option A)) (r f f' : ℕ) (x x' y y' : Float) → GivesFoundTwo first second p r f f' x x' y y' → 0 < r → (f' ≡ f) × (x' ≡ x) × (y' ≡ y)
found-two-left (answers a) r f f' x x' y y' g h = absurd (no_code g.code h)
found-two-left (refuses n) r f f' x x' y y' g h = (g.found, g.one, g.other)

-- `turning_stock_line`: the line and its length
pub file-line-left : (p : Paper (List ℕ)) (r n n' : ℕ) (l l' : List ℕ) → GivesFileLine p r n n' l l' → 0 < r → (n' ≡ n) × (l' ≡ l)
file-line-left (answers s) r n n' l l' g h = absurd (no_code g.code h)
file-line-left (refuses c) r n n' l l' g h = (g.len, g.line)

-- `turning_read_end`: both counts and the edition; *line is its place
pub kept-left : (p : Paper Kept) (r n n' m m' e e' l l' : ℕ) → GivesKept p r n n' m m' e e' l l' → 0 < r → (n' ≡ n) × (m' ≡ m) × (e' ≡ e)
kept-left (answers s) r n n' m m' e e' l l' g h = absurd (no_code g.code h)
kept-left (refuses c) r n n' m m' e e' l l' g h = (g.cells, g.rings, g.edition)

-- `turning_read_part` behind a refused line: 16, and all that is lent
pub part_left : (f g : Flat) (s : List ℕ) (r : ℕ) → TakesFile f g s r → refused_in f.words ≡ true → (g ≡ f) × (r ≡ 16)
unfolding after_part
part_left f g s r t e =
    let st : State = state (reading_from f.words f.bar) f.cells f.rings in
    let q : (taking_in f s).job.reading.refused ≡ true = ap (λ (j : Hand State). j.job.reading.refused) (stopped-takes stopped on_line on_long s st (held_in (held_from f.words) f.line) e) ∙ e in
    (t.left ∙ pick_true _ _ _ e, t.code ∙ pick_true _ _ _ q)
