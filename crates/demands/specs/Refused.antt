-- What each call's refusals turn on: the tests that its rule asks, in 01's order, each with the reason that it refuses with. Assumes nothing.
use Rattle.std.specs.Prelude.{◌≡◌, Bool, true, false, not, ◌&&◌, ◌||◌, List, [], ◌∷◌, ◌++◌, ℕ, suc, ◌*◌, ◌/◌, eqb, leb, ltb, length, Float, Option, None, Some}
use Rattle.std.specs.Float.Ieee.{le}
use Rattle.std.specs.Float.Ieee.Scale.{finite}
use Rattle.refusals.specs.Paper.{Paper, Reason, answers, refuses, only, at}
use Rattle.refusals.specs.Limits.{cell_limit, piece_limit, last_generation}
use Rattle.floats.specs.Each.{Each}
use Rattle.floats.specs.Pick.{pick}
use Rattle.floats.specs.Numbers.{◌+₆₄◌, ◌*₆₄◌, zero64, clean_of, usable}
use Rattle.numbers.specs.Whole.{whole_up}
use Rattle.stock.specs.declared.TurnStockSpec.{TurnStockSpec}
use Rattle.stock.specs.declared.Stamp.{Stamp}
use Rattle.stock.specs.declared.TurnStock.{TurnStock}
use Rattle.stock.specs.Stock.{same_stamp}
use Rattle.changes.specs.declared.ChangeList.{ChangeList}
use Rattle.stock.specs.declared.TurnCell.{TurnCell}
use Rattle.stock.specs.declared.TurnChange.{TurnChange}
use Rattle.stock.specs.declared.TurnSide.{TurnSide}
use Rattle.stock.specs.Spec.{clean_spec, spec_good, quotient, cells_of}
use Rattle.stock.specs.Cell.{cell_at, cell_fits, cells_fit, same_cell, stock_of}
use Rattle.reach.specs.Reach.{Act, act_cell}
use Rattle.nose.specs.Nose.{segments_good, nose_act}
use Rattle.polygon.specs.Polygon.{polygon_good, polygon_act}
use Rattle.changes.specs.Change.{changes_to, changes_from, written_of}
use Rattle.changes.specs.Change as change
use Rattle.cuts.specs.declared.Cut.{Cut}
use Rattle.cuts.specs.declared.Tool.{Tool}
use Rattle.cuts.specs.declared.Tool.TheVariants.{Single, Nose, Polygon}
use Rattle.cuts.specs.Cut.{is_arc, clean_cut, cut_good, cut_act}
use Rattle.cuts.specs.Preview.{preview_cut}
use Rattle.changes.specs.Commit.{only_removes, first_fall}
use Rattle.changes.specs.Difference.{other_cell}
use Rattle.rings.specs.declared.Ring.{Ring}
use Rattle.rings.specs.Ring.{filled, kept, in_hand, clip, left}
use Rattle.rings.specs.Store.{bar_ring, rings_of, room_for_rings, count_fits, finite_ring, bad_ring}
use Rattle.rings.specs.Remove.{room_for}
use Rattle.moves.specs.Move.{generation_after}
use Rattle.blocks.specs.Block.{blocks_in, matches_of}
use Rattle.passes.specs.Check.{targets_good, cuts_good}
use Rattle.passes.specs.Propose.{nose_good}
use Rattle.insert.specs.Insert.{touch_asks, eroded_asks}
use Rattle.envelope.specs.Envelope.{points_good}
use Rattle.job_words.specs.declared.Line.{Line}
use Rattle.job_words.specs.declared.Line.TheVariants.{Bar, Cutting, Removing, Arc, Bad}
use Rattle.job_words.specs.Kind.{line_of}
use Rattle.job_run.specs.declared.line.Job.{Job}
use Rattle.job_run.specs.Job.{line_limit, cells_of_job}
use Rattle.stock_lines.specs.declared.Reading.{Reading}
use Rattle.stock_file.specs.Read.{front_of, spec_of}
use Rattle.profile.specs.Profile.{profile_good}
use Rattle.profile.specs.Chords.{Chord, profile_chords}
use Rattle.side_by_side.specs.Compared.{Side, same_bar, both_in_hand}

-- ---- what "exactly when, in this order" means

-- a test, and the reason of the refusal where it does not hold
pub record Asked : Type 0 where
  pub holds : Bool
  pub why : Reason

-- a test whose refusal has the number n, and no place
abbrev pub ask : Bool → ℕ → Asked
ask t n = record { holds = t; why = only n }

-- the same, with the place k
abbrev pub ask_at : Bool → ℕ → ℕ → Asked
ask_at t n k = record { holds = t; why = at n k }

-- no place is found; else the refusal has the number n, and that place
abbrev pub ask_none : Option ℕ → ℕ → Asked
ask_none None n = ask true n
ask_none (Some k) n = ask_at false n k

-- a test whose refusal tells its number alone
abbrev pub number_alone : Asked → Asked
number_alone q = ask q.holds q.why.number

-- the numbers that have a place in the call that gives them out
abbrev pub has_place : ℕ → Bool
has_place n = eqb n 7 || eqb n 8 || eqb n 10 || eqb n 21 || eqb n 22 || eqb n 23

-- all of them hold
abbrev pub AllHold : List Asked → Type 0
AllHold l = Each (λ (q : Asked). q.holds ≡ true) l

-- the first of the tests that does not hold has the reason k: all that stand before it hold
pub record Stops (k : Reason) (l : List Asked) : Type 0 where
  pub before : List Asked
  pub after : List Asked
  pub order : l ≡ before ++ (record { holds = false; why = k } ∷ after)
  pub hold : AllHold before

-- A rule refuses with k exactly when the first of the tests that does not hold has the reason k; and it answers exactly when all of them hold.
pub record Exactly {A : Type 0} (p : Paper A) (l : List Asked) : Type 0 where
  pub stops : (k : Reason) → p ≡ refuses k → Stops k l
  pub refused : (k : Reason) → Stops k l → p ≡ refuses k
  pub hold : (a : A) → p ≡ answers a → AllHold l
  pub answered : AllHold l → (a : A) × (p ≡ answers a)

-- A test of what p answers. Where p refuses it is not asked, since one of the tests of p stands before it and does not hold.
unfoldable pub of_answer : {A : Type 0} → Paper A → (A → Bool) → Bool
of_answer (answers a) test = test a
of_answer (refuses n) test = true

-- ---- the root and the length: 5

-- finite, and not below 0
abbrev pub root_asks : Float → List Asked
root_asks x = ask (finite x && le zero64 x) 5 ∷ []

-- the same of the rounded sum of the rounded squares
abbrev pub length_asks : Float → Float → List Asked
length_asks x y = root_asks (x *₆₄ x +₆₄ y *₆₄ y)

-- ---- a spec, its bins and its cells

-- n is there (finite, and not over 4,096), not 0, and not over max_cells
abbrev pub count_good : ℕ → Option ℕ → Bool
count_good most None = false
count_good most (Some n) = not (eqb n 0) && leb n most

-- 1, 2
abbrev pub spec_asks : TurnStockSpec → List Asked
spec_asks spec = ask (spec_good (clean_spec spec)) 1 ∷ ask (count_good (clean_spec spec).max_cells (whole_up (quotient (clean_spec spec)) cell_limit)) 2 ∷ []

-- 1, 2, 21: bin i of n
abbrev pub bin_asks : TurnStockSpec → ℕ → List Asked
bin_asks spec i = spec_asks spec ++ (ask (of_answer (cells_of spec) (λ n. ltb i n)) 21 ∷ [])

-- 1, 2, 3: so many lent numbers are four for each of n cells
abbrev pub new_asks : TurnStockSpec → ℕ → List Asked
new_asks spec len = spec_asks spec ++ (ask (of_answer (cells_of spec) (λ n. eqb len (4 * n))) 3 ∷ [])

-- 1, 2, 3: the lent cells are n, and each fits
abbrev pub stock_asks : TurnStockSpec → List Float → List Asked
stock_asks spec cs = spec_asks spec ++ (ask (of_answer (cells_of spec) (λ n. cells_fit (clean_spec spec) cs n)) 3 ∷ [])

-- the kept numbers are those of the cells
abbrev pub matching : TurnStockSpec → List Float → List Float → Bool
matching spec cs bs = of_answer (stock_of spec cs) (λ n. matches_of (clean_spec spec) n cs bs)

-- 1, 2, 3, 20: a stock with its kept numbers
abbrev pub kept_asks : TurnStockSpec → List Float → List Float → List Asked
kept_asks spec cs bs = stock_asks spec cs ++ (ask (matching spec cs bs) 20 ∷ [])

-- 1, 2, 3, 20: kept numbers that are worked out, two for each block
abbrev pub renew_asks : TurnStockSpec → List Float → ℕ → List Asked
renew_asks spec cs len = stock_asks spec cs ++ (ask (of_answer (stock_of spec cs) (λ n. eqb len (2 * blocks_in n))) 20 ∷ [])

-- ---- previews

-- no more changes than room, where f says what the cell of each bin becomes
abbrev pub room_good : TurnStockSpec → List Float → (ℕ → TurnCell → TurnCell) → ℕ → Bool
room_good spec cs f room = of_answer (stock_of spec cs) (λ n. leb (length (changes_to f cs n)) room)

-- 1, 2, 3, 13, 5, 6
abbrev pub preview_cut_asks : TurnStockSpec → List Float → Cut → ℕ → List Asked
preview_cut_asks spec cs cut room =
    let u = clean_cut cut in
    stock_asks spec cs ++ (ask (not (is_arc u)) 13 ∷ ask (cut_good u) 5 ∷ ask (room_good spec cs (act_cell (cut_act (clean_spec spec) u)) room) 6 ∷ [])

-- 1, 2, 3, 5, 6: a cut that is in its domain or not
abbrev pub preview_asks : TurnStockSpec → List Float → Bool → Act → ℕ → List Asked
preview_asks spec cs good a room = stock_asks spec cs ++ (ask good 5 ∷ ask (room_good spec cs (act_cell a) room) 6 ∷ [])

-- the same of a nose and of a polygon
abbrev pub preview_nose_asks : TurnStockSpec → List Float → TurnSide → Float → List Float → ℕ → List Asked
preview_nose_asks spec cs side rn xs room = preview_asks spec cs (segments_good rn xs) (nose_act (clean_spec spec) side rn xs) room

abbrev pub preview_polygon_asks : TurnStockSpec → List Float → TurnSide → Float → List Float → ℕ → List Asked
preview_polygon_asks spec cs side excess ps room = preview_asks spec cs (polygon_good ps excess) (polygon_act (clean_spec spec) side excess ps) room

-- of a tool, by its kind
abbrev pub preview_tool_asks : TurnStockSpec → List Float → Tool → List Float → ℕ → List Asked
preview_tool_asks spec cs (Single cut) ys room = preview_cut_asks spec cs cut room
preview_tool_asks spec cs (Nose side rn) ys room = preview_nose_asks spec cs side rn ys room
preview_tool_asks spec cs (Polygon side excess) ys room = preview_polygon_asks spec cs side excess ys room

-- ---- changes

-- change by change 8, 21, 22, 23, the first change at the place k; p is how many cells there are
unfoldable pub each_asks : TurnStockSpec → Paper ℕ → List Float → ℕ → List TurnChange → List Asked
each_asks s p cs k [] = []
each_asks s p cs k (c ∷ l) =
    ask_at (cell_fits s c.after) 8 k
    ∷ ask_at (of_answer p (λ n. ltb c.index n)) 21 k
    ∷ ask_at (same_cell (cell_at cs c.index) c.before) 22 k
    ∷ ask_at (only_removes c.before c.after) 23 k
    ∷ each_asks s p cs (suc k) l

-- 8, 21, 22, 23: one change, against n cells, in no list
abbrev pub change_asks : TurnStockSpec → ℕ → List Float → TurnChange → List Asked
change_asks s n cs c =
    ask (cell_fits s c.after) 8
    ∷ ask (ltb c.index n) 21
    ∷ ask (same_cell (cell_at cs c.index) c.before) 22
    ∷ ask (only_removes c.before c.after) 23
    ∷ []

-- 7 over the whole list, at the first fall, then change by change
abbrev pub pass_asks : TurnStockSpec → Paper ℕ → List Float → List TurnChange → List Asked
pass_asks s p cs l = ask_none (first_fall l) 7 ∷ each_asks s p cs 0 l

-- 7, then 8, 21, 22, 23 change by change, 12; p is how many cells there are
abbrev pub commit_in_asks : TurnStockSpec → Paper ℕ → List Float → ℕ → List TurnChange → List Asked
commit_in_asks s p cs gen l = pass_asks s p cs l ++ (ask (ltb gen last_generation) 12 ∷ [])

-- 1, 2, 3, 19, 20: a stock that is asked for a commit
abbrev pub asked_asks : TurnStock → List Float → List Float → Stamp → List Asked
asked_asks k cs bs st = stock_asks k.spec cs ++ (ask (same_stamp st k.stamp) 19 ∷ ask (matching k.spec cs bs) 20 ∷ [])

-- 1, 2, 3, 19, 20, 7, then 8, 21, 22, 23 change by change, 12: a list with its stamp
abbrev pub commit_asks : TurnStock → List Float → List Float → Stamp → List TurnChange → List Asked
commit_asks k cs bs st l = asked_asks k cs bs st ++ commit_in_asks (clean_spec k.spec) (stock_of k.spec cs) cs k.stamp.generation l

-- 1, 2, 3, 7, then 8, 21, 22, 23 change by change, 12: a stock's own list, of which no kept numbers are asked
abbrev pub own_asks : TurnStockSpec → List Float → ℕ → List TurnChange → List Asked
own_asks spec cs gen l = stock_asks spec cs ++ commit_in_asks (clean_spec spec) (stock_of spec cs) cs gen l

-- 1, 2, 3, 19, 20, 6, 7, then 8, 21, 22, 23 change by change, 12: a change list from the lent lists
abbrev pub apply_asks : TurnStock → List Float → List Float → ChangeList → List ℕ → List Float → List Asked
apply_asks k cs bs list is xs =
    asked_asks k cs bs list.stamp
    ++ (ask (leb list.count (change.room_of (length is) (length xs))) 6
    ∷ commit_in_asks (clean_spec k.spec) (stock_of k.spec cs) cs k.stamp.generation (changes_from is xs list.count))

-- 1, 2, 3 of the first list and of the second, 6
abbrev pub difference_asks : TurnStockSpec → List Float → List Float → ℕ → List Asked
difference_asks spec cs ds room = stock_asks spec cs ++ (ask (of_answer (stock_of spec cs) (λ n. cells_fit (clean_spec spec) ds n)) 3 ∷ ask (room_good spec cs (other_cell ds) room) 6 ∷ [])

-- ---- rings

-- 1, 2, 4, 10, 12, 11; a ring that is empty after clipping skips 12 and 11
abbrev pub remove_asks : TurnStockSpec → List Float → ℕ → ℕ → Ring → List Asked
remove_asks spec xs n g q =
    let e = bar_ring (clean_spec spec) in
    spec_asks spec
    ++ (ask (count_fits e xs n) 4
    ∷ ask_at (finite_ring q) 10 0
    ∷ ask (not (filled (clip e q)) || ltb g last_generation) 12
    ∷ ask (not (filled (clip e q)) || room_for (room_for_rings (length xs)) (rings_of n xs) (clip e q)) 11
    ∷ [])

-- one ring after the other: never over 256 pieces in hand, and room for what is left of each, beside what the store then holds
unfoldable pub room_for_all : Ring → ℕ → List Ring → List Ring → Bool
room_for_all e room ks [] = true
room_for_all e room ks (q ∷ qs) = room_for room ks (clip e q) && room_for_all e room (ks ++ left ks (clip e q)) qs

-- the same of lent rings and n stored ones
abbrev pub all_stored : TurnStockSpec → List Float → ℕ → List Float → Bool
all_stored spec xs n removed = room_for_all (bar_ring (clean_spec spec)) (room_for_rings (length xs)) (rings_of n xs) (rings_of (length removed / 4) removed)

-- 4 for the count alone, 11: rings of a stock that is checked already
abbrev pub remove_rings_asks : TurnStockSpec → List Float → ℕ → List Float → List Asked
remove_rings_asks spec xs n removed = ask (leb n (room_for_rings (length xs))) 4 ∷ ask (all_stored spec xs n removed) 11 ∷ []

-- 11, of a ring that is taken as it stands
abbrev pub left_asks : List Ring → Ring → List Asked
left_asks ks q = ask (in_hand piece_limit (kept q) ks) 11 ∷ []

-- 10, 11: rings given, into an empty store
abbrev pub given_asks : TurnStockSpec → List Float → List Float → List Asked
given_asks spec given xs = ask_none (bad_ring given) 10 ∷ ask (all_stored spec xs 0 given) 11 ∷ []

-- 1, 2, 3, 20 for the count of kept numbers alone, 10, 11
abbrev pub parts_asks : TurnStockSpec → List Float → ℕ → List Float → List Float → List Asked
parts_asks spec cs len given xs = renew_asks spec cs len ++ given_asks spec given xs

-- 4, 19, 20, 10; behind the tests of a stock
abbrev pub movable_asks : TurnStock → List Float → List Float → List Float → Stamp → List Float → List Asked
movable_asks k cs bs xs st removed =
    ask (count_fits (bar_ring (clean_spec k.spec)) xs k.rings) 4
    ∷ ask (same_stamp st k.stamp) 19
    ∷ ask (matching k.spec cs bs) 20
    ∷ ask_none (bad_ring removed) 10
    ∷ []

-- 12, 11: the rings of a move and its generation
abbrev pub rings_moved_asks : TurnStock → List Float → List Float → List Asked
rings_moved_asks k xs removed = ask (leb (generation_after k.spec k.stamp.generation removed) last_generation) 12 ∷ ask (all_stored k.spec xs k.rings removed) 11 ∷ []

-- 4, 19, 20, 10, 7, then 8, 21, 22, 23 change by change, 12, 11; behind the tests of a stock
abbrev pub move_in_asks : TurnStock → List Float → List Float → List Float → Stamp → List TurnChange → List Float → List Asked
move_in_asks k cs bs xs st l removed = movable_asks k cs bs xs st removed ++ (pass_asks (clean_spec k.spec) (stock_of k.spec cs) cs l ++ rings_moved_asks k xs removed)

-- 1, 2, 3, 4, 19, 20, 10, 7, then 8, 21, 22, 23 change by change, 12, 11: a list of changes with its stamp, 01's order with Req 08's 19, Req 09's 20 and with Req 04's three in the place of 9
abbrev pub move_list_asks : TurnStock → List Float → List Float → List Float → Stamp → List TurnChange → List Float → List Asked
move_list_asks k cs bs xs st l removed = stock_asks k.spec cs ++ move_in_asks k cs bs xs st l removed

-- 1, 2, 3, 6, 4, 19, 20, 10, 7, then 8, 21, 22, 23 change by change, 12, 11: a change list from the lent lists
abbrev pub asks_of_move : TurnStock → List Float → List Float → List Float → ChangeList → List ℕ → List Float → List Float → List Asked
asks_of_move k cs bs xs list is ys removed =
    stock_asks k.spec cs ++ (ask (leb list.count (change.room_of (length is) (length ys))) 6 ∷ move_in_asks k cs bs xs list.stamp (changes_from is ys list.count) removed)

-- ---- a stock file

-- 16 at the line that was refused; then 1, 2, 3 of the cells that the room reached, and 4
abbrev pub file_asks : Reading → ℕ → List Float → List Float → List Asked
file_asks r most cs rs =
    ask_at (not r.refused) 16 r.lines
    ∷ (stock_asks (spec_of r.bar most) (front_of r.cells cs) ++ (ask (count_fits (bar_ring (clean_spec (spec_of r.bar most))) rs r.rings) 4 ∷ []))

-- 1, 2, 3 for the length alone, 4 for the count alone
abbrev pub file_line_asks : TurnStockSpec → List Float → List Float → ℕ → List Asked
file_line_asks spec cs rs m = new_asks spec (length cs) ++ (ask (leb m (room_for_rings (length rs))) 4 ∷ [])

-- 24, 11 of two stocks that were read
abbrev pub compare_asks : TurnStockSpec → Side → TurnStockSpec → Side → List Asked
compare_asks s a t b = ask (same_bar s t) 24 ∷ ask (both_in_hand a b) 11 ∷ []

-- ---- volume: 1, 2, 3, 4. `envelope_at` asks as a stock does.
abbrev pub volume_asks : TurnStockSpec → List Float → List Float → ℕ → List Asked
volume_asks spec cs xs k = stock_asks spec cs ++ (ask (count_fits (bar_ring (clean_spec spec)) xs k) 4 ∷ [])

-- ---- proposed cuts

-- 1, 2, 3 of the cells and of the room for those afterwards, 20 of the kept numbers and of the count of those afterwards, 25 of the cuts and their targets
abbrev pub check_asks : TurnStockSpec → List Float → List Float → List Float → List ℕ → ℕ → ℕ → List Asked
check_asks spec cs bs ts kinds room numbers =
    stock_asks spec cs
    ++ (ask (of_answer (stock_of spec cs) (λ n. eqb room (4 * n))) 3
    ∷ ask (matching spec cs bs) 20
    ∷ ask (of_answer (stock_of spec cs) (λ n. eqb numbers (2 * blocks_in n))) 20
    ∷ ask (of_answer (stock_of spec cs) (λ n. cuts_good kinds && targets_good ts n)) 25
    ∷ [])

-- 1, 2, 3, 25 of the targets, 5 of the nose's radius
abbrev pub propose_asks : TurnStockSpec → List Float → List Float → Float → List Asked
propose_asks spec cs ts rn = stock_asks spec cs ++ (ask (of_answer (stock_of spec cs) (λ n. targets_good ts n)) 25 ∷ ask (nose_good (clean_of rn)) 5 ∷ [])

-- ---- envelopes: 14

-- the points
abbrev pub points_asks : List Float → List Asked
points_asks ps = ask (points_good ps) 14 ∷ []

-- and a query of one number
abbrev pub radius_asks : List Float → Float → List Asked
radius_asks ps u = ask (points_good ps && usable u) 14 ∷ []

-- or of two
abbrev pub within_asks : List Float → Float → Float → List Asked
within_asks ps lo hi = ask (points_good ps && (usable lo && usable hi)) 14 ∷ []

-- ---- a line of a job: 15, 13, or what its call asks

-- a bar: 1, 2, and 3 where the lent cells are fewer
abbrev pub bar_asks : TurnStockSpec → List Float → List Asked
bar_asks spec cs = spec_asks spec ++ (ask (of_answer (cells_of spec) (λ n. leb (4 * n) (length cs))) 3 ∷ [])

-- a cut: what its preview asks, then what the commit of its changes asks
abbrev pub cut_line_asks : Job → Cut → ℕ → List Float → List Asked
cut_line_asks j cut room cs =
    let own = cells_of_job j cs in
    preview_cut_asks j.stock.spec own cut room ++ own_asks j.stock.spec own j.stock.stamp.generation (written_of (preview_cut j.stock.spec own cut room))

-- anything but a bar before it is 15
unfoldable pub first_line_asks : Line → List Float → List Asked
first_line_asks (Bar spec) cs = bar_asks spec cs
first_line_asks (Cutting cut) cs = ask false 15 ∷ []
first_line_asks (Removing q) cs = ask false 15 ∷ []
first_line_asks Arc cs = ask false 15 ∷ []
first_line_asks Bad cs = ask false 15 ∷ []

-- an arc is 13, a second bar 15
unfoldable pub later_line_asks : Job → Line → ℕ → List Float → List Float → List Asked
later_line_asks j (Bar spec) room cs rs = ask false 15 ∷ []
later_line_asks j (Cutting cut) room cs rs = cut_line_asks j cut room cs
later_line_asks j (Removing q) room cs rs = remove_asks j.stock.spec rs j.stock.rings j.stock.stamp.generation q
later_line_asks j Arc room cs rs = ask false 13 ∷ []
later_line_asks j Bad room cs rs = ask false 15 ∷ []

-- 127 bytes at most without the newline, then by its place
abbrev pub line_asks : Job → List ℕ → ℕ → List Float → List Float → List Asked
line_asks j s room cs rs = ask (ltb (length s) line_limit) 15 ∷ pick (eqb j.cells 0) (first_line_asks (line_of s) cs) (later_line_asks j (line_of s) room cs rs)

-- ---- profiles

-- ten halvings reached the tolerance, and there is room for the chords
abbrev pub chords_fit : ℕ → Option (List Chord) → Bool
chords_fit room None = false
chords_fit room (Some l) = leb (length l) room

-- the chords of a profile, into a room
abbrev pub segments_asks : List Float → Float → ℕ → List Asked
segments_asks xs tol room = ask (profile_good xs tol) 17 ∷ ask (chords_fit room (profile_chords xs tol)) 18 ∷ []

-- the points, an insert's polygon and the tolerance
abbrev pub insert_asks : List Float → List Float → Float → List Asked
insert_asks ps gs t = ask (touch_asks ps gs t) 14 ∷ []

-- the points, a u and the tolerance
abbrev pub eroding_asks : List Float → Float → Float → List Asked
eroding_asks ps u t = ask (eroded_asks ps u t) 14 ∷ []
