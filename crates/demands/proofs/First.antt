-- THE FIRST DEMAND: each refusal number exactly when 01's table says so, in 01's order; and a refusal leaves every lent buffer as it was.
-- `Exactly rule asks` says it of a rule: `asks` is the list of its tests in 01's order, each with its number (specs/Refused). The rule refuses with k exactly when the first
-- of them that does not hold has the number k, and answers exactly when all of them hold. Each call's promise says that it answers by its rule. Assumes nothing.
--
-- Below each law names the calls that it is of. `change_slices::propose` has the rule of the flat call, with the number of records as the room (`preview-tool-exactly`). `changes::list_of` refuses with the number that it is given. What the methods of an `Envelope` made by `new` answer is the rule of the flat call too (proofs/Profile): `envelope::held::Envelope::order`,
-- `envelope::held::Envelope::radius_at`, `envelope::held::Envelope::radius_range`.
use Rattle.std.specs.Prelude.{Option, None, Some}
use mathlib.Core.Path.{◌≡◌, refl, sym, ap, ap₂, ◌∙◌, subst}
use mathlib.Core.Logic.{inl, inr}
use mathlib.Core.Bool.{Bool, true, false, not, ◌&&◌, ◌||◌, false≢true}
use mathlib.Core.List.{List, [], ◌∷◌, ◌++◌}
use Prim.Native.Nat.{ℕ, zero, suc, ◌*◌, ◌≤◌, ◌<◌, min}
use native.Mathlib.Nat.{mul-pos, zero-lt-suc}
use native.Mathlib.Omega.{arith}
use borrow.Author.Tests.{le-leb}
use lib.Dec.{T, eqb, leb, ltb, lt→ltb, eqb→eq}
use lib.ListN.{length}
use lib.Ieee.{Float, nan, inf, fin, up, down, level, le, lt, eq, of_bits}
use lib.Ieee.Bits.{is_true}
use lib.Ieee.Fits.{up_pos}
use Rattle.refusals.specs.Paper.{Paper, answers, demand, demand_at, placed, onward, demand-true, placed-answers}
use Rattle.refusals.specs.Limits.{cell_limit, piece_limit, last_generation, last_place}
use Rattle.floats.specs.Pick.{pick}
use Rattle.floats.specs.Numbers.{◌+₆₄◌, ◌*₆₄◌, zero64, clean_of, usable}
use Rattle.numbers.specs.Root.{root_of}
use Rattle.numbers.specs.Length.{plain_length, length_of}
use Rattle.numbers.specs.Whole.{whole_up}
use Rattle.numbers.proofs.Asked.{AsBefore, length-as-before}
use Rattle.stock.specs.declared.TurnStockSpec.{TurnStockSpec}
use Rattle.stock.specs.declared.Stamp.{Stamp}
use Rattle.stock.specs.declared.TurnStock.{TurnStock}
use Rattle.stock.specs.Stock.{same_stamp}
use Rattle.changes.specs.declared.ChangeList.{ChangeList}
use Rattle.stock.specs.declared.TurnCell.{TurnCell}
use Rattle.stock.specs.declared.TurnChange.{TurnChange}
use Rattle.stock.specs.declared.TurnSide.{TurnSide}
use Rattle.stock.specs.Spec.{clean_spec, spec_good, quotient, counted, cells_of}
use Rattle.stock.specs.Bin.{bin_for}
use Rattle.stock.specs.Cell.{cell_at, cell_fits, cells_fit, same_cell, stock_of, new_of}
use Rattle.stock.proofs.Count.{and_both, demanded}
use Rattle.reach.specs.Reach.{Act, act_cell}
use Rattle.nose.specs.Nose.{segments_good, nose_act}
use Rattle.polygon.specs.Polygon.{polygon_good, polygon_act}
use Rattle.changes.specs.Change.{changes_to, changes_from, settled, written_of}
use Rattle.changes.specs.Change as change
use Rattle.cuts.specs.declared.Cut.{Cut}
use Rattle.cuts.specs.Cut.{is_arc, clean_cut, cut_good, cut_act}
use Rattle.cuts.specs.Preview.{preview_of, preview_nose, preview_polygon, preview_cut}
use Rattle.cuts.specs.declared.Tool.{Tool}
use Rattle.cuts.specs.declared.Tool.TheVariants.{Single, Nose, Polygon}
use Rattle.cuts.specs.Tool.{preview_tool}
use Rattle.changes.specs.Commit.{only_removes, applies_to, first_fall, passes, each_from, pass_all, commit_in, commit_held, asked_stock, commit_of, apply_of, own_commit}
use Rattle.changes.specs.Decide.{on_cells, steps_of, outcome_of, raised_of}
use Rattle.changes.proofs.Decided.{outcome-is}
use Rattle.changes.proofs.Kept.{asked}
use Rattle.changes.specs.Difference.{other_cell, difference_of}
use Rattle.rings.specs.declared.Ring.{Ring}
use Rattle.rings.specs.Ring.{filled, kept, in_hand, clip, left}
use Rattle.rings.specs.Store.{bar_ring, rings_of, room_for_rings, count_fits, store_fits, finite_ring, bad_ring}
use Rattle.rings.specs.Remove.{room_for, added, added_all, stored_next, remove_all_in, remove_rings, remove_in, remove_ring, leaves}
use Rattle.moves.specs.Move.{generation_after, movable_of, rings_moved, taken_of, move_in, move_of, given_of, parts_of}
use Rattle.change_slices.specs.Move.{move_list_of}
use Rattle.queries.specs.Envelope.{envelope_at}
use Rattle.queries.specs.Volume.{volume_of}
use Rattle.passes.specs.Cuts.{Cuts}
use Rattle.passes.specs.Check.{targets_good, cuts_good, checkable_of, check_of}
use Rattle.passes.specs.Propose.{nose_good, propose_of}
use Rattle.blocks.specs.Block.{blocks_in, matches_of, kept_stock}
use Rattle.blocks.specs.Range.{range_of}
use Rattle.blocks.specs.Renew.{renew_of}
use Rattle.stock_lines.specs.declared.Reading.{Reading}
use Rattle.stock_file.specs.Read.{spec_of, front_of, stock_in, told_as}
use Rattle.stock_file.specs.Write.{line_count, line_for}
use Rattle.side_by_side.specs.Compared.{Side, same_bar, both_in_hand, compared_of}
use Rattle.profile.specs.Profile.{profile_good}
use Rattle.profile.specs.Chords.{Chord, profile_chords, segments_of}
use Rattle.profile.specs.Chords as profile
use Rattle.envelope.specs.Envelope.{points_good, ordered_of, within_of, within_refusal_of, radius_at_of, radius_range_of}
use Rattle.insert.specs.declared.Which.{Which}
use Rattle.insert.specs.Insert.{touch_asks, eroded_asks, touched, eroded_of}
use Rattle.job_words.specs.declared.Line.{Line}
use Rattle.job_words.specs.declared.Line.TheVariants.{Bar, Cutting, Removing, Arc, Bad}
use Rattle.job_words.specs.Kind.{line_of}
use Rattle.job_run.specs.declared.line.Job.{Job}
use Rattle.job_run.specs.Job.{line_limit, cells_of_job, bar_line, made_cut, cut_line, removing_line, first_line, later_line, job_line}
use Rattle.demands.specs.Refused.{Asked, ask, Exactly, root_asks, length_asks, count_good, spec_asks, bin_asks, new_asks, stock_asks, room_good, preview_cut_asks, preview_asks, preview_nose_asks, preview_polygon_asks, preview_tool_asks, each_asks, change_asks, pass_asks, commit_in_asks, asked_asks, commit_asks, own_asks, apply_asks, difference_asks, remove_asks, room_for_all, all_stored, remove_rings_asks, left_asks, given_asks, parts_asks, movable_asks, rings_moved_asks, move_in_asks, move_list_asks, asks_of_move, volume_asks, kept_asks, renew_asks, check_asks, propose_asks, points_asks, radius_asks, within_asks, bar_asks, cut_line_asks, first_line_asks, later_line_asks, line_asks, chords_fit, segments_asks, insert_asks, eroding_asks, file_asks, file_line_asks, compare_asks}
use Rattle.demands.proofs.Asking.{refusal_of, Asks, exactly, exactly-as, asks_none, asks-more, asks_of, asks_at, asks-of-at, asks-found, placed-demand, asks-on, asks-then, asks-as, asks-holds, asks-fails, onward-demand}

-- ---- the root and the length

no-product : (d u m : ℕ) → 0 < suc m * u → 0 * 1 * d ≡ suc m * u * 1 → ⊥
no-product d u m p h = omega arith

more : (d u m : ℕ) → 0 < suc m * u → 0 * 1 * d < suc m * u * 1
more d u m p = omega arith

is_false : (t : Bool) → (T t → ⊥) → t ≡ false
is_false true h = absurd (h tt)
is_false false h = refl

and-false : (s t : Bool) → s ≡ false → (s && t) ≡ false
and-false s t e = simp e

or_left : (s t : Bool) → s ≡ true → (s || t) ≡ true
or_left s t e = simp e

or_right : (s t : Bool) → t ≡ true → (s || t) ≡ true
or_right true t e = refl
or_right false t e = e

-- both zeros
zeros : (s : Bool) (d u : ℕ) → level false (0 * 1 * d) s (0 * u * 1) ≡ true
zeros s d u = ap₂ (λ (a b : ℕ). level false a s b) None none' ∙ at_zero s
  where
    None : 0 * 1 * d ≡ 0
    None = omega arith

    none' : 0 * u * 1 ≡ 0
    none' = omega arith

    at_zero : (s : Bool) → level false 0 s 0 ≡ true
    at_zero true = refl
    at_zero false = refl

root-asks : (x : Float) → Asks (root_of x) (root_asks x)
unfolding root_of le lt eq of_bits
root-asks nan = asks-fails 5 refl
root-asks (inf s) = asks-fails 5 refl
root-asks (fin s zero e) = asks-holds 5 _ (or_right (lt zero64 (fin s zero e)) _ (zeros s (down e) (up e)))
root-asks (fin true (suc m) e) = asks-fails 5 (and-false _ _ (is_false (eqb (0 * 1 * down e) (suc m * up e * 1)) (λ h. no-product (down e) (up e) m (mul-pos (zero-lt-suc m) (up_pos e)) (eqb→eq (0 * 1 * down e) (suc m * up e * 1) h))))
root-asks (fin false (suc m) e) = asks-holds 5 _ (or_left _ (eq zero64 (fin false (suc m) e)) (is_true (ltb (0 * 1 * down e) (suc m * up e * 1)) (lt→ltb (0 * 1 * down e) (suc m * up e * 1) (more (down e) (up e) m (mul-pos (zero-lt-suc m) (up_pos e))))))

-- `root`: 5
pub root-exactly : (x : Float) → Exactly (root_of x) (root_asks x)
root-exactly x = exactly (root-asks x)

-- `length`: 5, where 01's rule refuses
pub length-exactly : (x y : Float) → Exactly (length_of x y) (length_asks x y)
unfolding plain_length refusal_of
length-exactly x y = exactly-as (length_of x y) (same (length-as-before x y)) (root-exactly (x *₆₄ x +₆₄ y *₆₄ y))
  where
    same : AsBefore x y → refusal_of (length_of x y) ≡ refusal_of (plain_length x y)
    same (inl e) = ap refusal_of e
    same (inr a) = ap refusal_of a.0.1 ∙ sym (ap refusal_of a.1.1)

-- ---- a spec, its bins and its cells

count-asks : (most : ℕ) (o : Option ℕ) → Asks (counted most o) (ask (count_good most o) 2 ∷ [])
unfolding demand
count-asks most None = asks-more {p = answers 0} false 2 (λ _. asks_none 0)
count-asks most (Some n) = asks-more (not (eqb n 0) && leb n most) 2 (λ _. asks_none n)

spec-asks : (spec : TurnStockSpec) → Asks (cells_of spec) (spec_asks spec)
unfolding cells_of
spec-asks spec = asks-more (spec_good (clean_spec spec)) 1 (λ _. count-asks (clean_spec spec).max_cells (whole_up (quotient (clean_spec spec)) cell_limit))

stock-asks : (spec : TurnStockSpec) (cs : List Float) → Asks (stock_of spec cs) (stock_asks spec cs)
unfolding stock_of
stock-asks spec cs = asks-on (cells_of spec) _ (spec-asks spec) (λ n e. asks_of (cells_of spec) n e (λ n. cells_fit (clean_spec spec) cs n) 3 (asks_none n))

-- `validate`: 1, 2
pub validate-exactly : (spec : TurnStockSpec) → Exactly (cells_of spec) (spec_asks spec)
validate-exactly spec = exactly (spec-asks spec)

-- `bin`: 1, 2, 21, of no place
pub bin-exactly : (spec : TurnStockSpec) (i : ℕ) → Exactly (bin_for spec i) (bin_asks spec i)
unfolding bin_for
bin-exactly spec i = exactly (asks-on (cells_of spec) _ (spec-asks spec) (λ n e. asks_of (cells_of spec) n e (λ n. ltb i n) 21 (asks_none _)))

new-asks : (spec : TurnStockSpec) (len : ℕ) → Asks (new_of spec len) (new_asks spec len)
unfolding new_of
new-asks spec len = asks-on (cells_of spec) _ (spec-asks spec) (λ n e. asks_of (cells_of spec) n e (λ n. eqb len (4 * n)) 3 (asks_none n))

-- `fill`, a new stock: 1, 2, 3
pub fill-exactly : (spec : TurnStockSpec) (len : ℕ) → Exactly (new_of spec len) (new_asks spec len)
fill-exactly spec len = exactly (new-asks spec len)

-- `cells_fit`: 1, 2, 3
pub cells-exactly : (spec : TurnStockSpec) (cs : List Float) → Exactly (stock_of spec cs) (stock_asks spec cs)
cells-exactly spec cs = exactly (stock-asks spec cs)

-- ---- previews and the difference

-- 6, behind the tests of a stock
settled-asks : (spec : TurnStockSpec) (cs : List Float) (n : ℕ) → stock_of spec cs ≡ answers n → (f : ℕ → TurnCell → TurnCell) (room : ℕ) → Asks (settled room (changes_to f cs n)) (ask (room_good spec cs f room) 6 ∷ [])
settled-asks spec cs n e f room = asks_of (stock_of spec cs) n e (λ n. leb (length (changes_to f cs n)) room) 6 (asks_none _)

pub preview-cut-asks : (spec : TurnStockSpec) (cs : List Float) (cut : Cut) (room : ℕ) → Asks (preview_cut spec cs cut room) (preview_cut_asks spec cs cut room)
unfolding preview_cut
preview-cut-asks spec cs cut room =
    let u = clean_cut cut in
    asks-on (stock_of spec cs) _ (stock-asks spec cs) (λ n e.
    asks-more (not (is_arc u)) 13 (λ _.
    asks-more (cut_good u) 5 (λ _.
    settled-asks spec cs n e (act_cell (cut_act (clean_spec spec) u)) room)))

-- `preview_cut`, and `thread_cut`, `thread_cut_inner`, `drill`, which are previews of one kind of cut: 1, 2, 3, 13, 5, 6
pub preview-cut-exactly : (spec : TurnStockSpec) (cs : List Float) (cut : Cut) (room : ℕ) → Exactly (preview_cut spec cs cut room) (preview_cut_asks spec cs cut room)
preview-cut-exactly spec cs cut room = exactly (preview-cut-asks spec cs cut room)

-- a cut that is in its domain or not: 1, 2, 3, 5, 6
pub preview-exactly : (spec : TurnStockSpec) (cs : List Float) (good : Bool) (a : Act) (room : ℕ) → Exactly (preview_of spec cs good a room) (preview_asks spec cs good a room)
unfolding preview_of
preview-exactly spec cs good a room = exactly (asks-on (stock_of spec cs) _ (stock-asks spec cs) (λ n e. asks-more good 5 (λ _. settled-asks spec cs n e (act_cell a) room)))

-- `preview`, of a nose along segments
pub preview-nose-exactly : (spec : TurnStockSpec) (cs : List Float) (side : TurnSide) (rn : Float) (xs : List Float) (room : ℕ) → Exactly (preview_nose spec cs side rn xs room) (preview_nose_asks spec cs side rn xs room)
preview-nose-exactly spec cs side rn xs room = preview-exactly spec cs (segments_good rn xs) (nose_act (clean_spec spec) side rn xs) room

-- `preview_polygon`
pub preview-polygon-exactly : (spec : TurnStockSpec) (cs : List Float) (side : TurnSide) (excess : Float) (ps : List Float) (room : ℕ) → Exactly (preview_polygon spec cs side excess ps room) (preview_polygon_asks spec cs side excess ps room)
preview-polygon-exactly spec cs side excess ps room = preview-exactly spec cs (polygon_good ps excess) (polygon_act (clean_spec spec) side excess ps) room

-- `preview_tool`, by the kind of the tool
pub preview-tool-exactly : (spec : TurnStockSpec) (cs : List Float) (t : Tool) (ys : List Float) (room : ℕ) → Exactly (preview_tool spec cs t ys room) (preview_tool_asks spec cs t ys room)
unfolding preview_tool
preview-tool-exactly spec cs (Single cut) ys room = preview-cut-exactly spec cs cut room
preview-tool-exactly spec cs (Nose side rn) ys room = preview-nose-exactly spec cs side rn ys room
preview-tool-exactly spec cs (Polygon side excess) ys room = preview-polygon-exactly spec cs side excess ys room

-- `changes_to`, the difference: 1, 2, 3 of either list, 6
pub difference-exactly : (spec : TurnStockSpec) (cs ds : List Float) (room : ℕ) → Exactly (difference_of spec cs ds room) (difference_asks spec cs ds room)
unfolding difference_of
difference-exactly spec cs ds room =
    exactly (asks-on (stock_of spec cs) _ (stock-asks spec cs) (λ n e.
    asks_of (stock_of spec cs) n e (λ n. cells_fit (clean_spec spec) ds n) 3
    (settled-asks spec cs n e (other_cell ds) room)))

-- ---- commits

-- change by change, where p answers how many cells there are
-- one change, at its place
placed-is : (s : TurnStockSpec) (n : ℕ) (cs : List Float) (c : TurnChange) (k : ℕ) → placed k (passes s n cs c)
    ≡ demand_at (cell_fits s c.after) 8 k (demand_at (ltb c.index n) 21 k (demand_at (same_cell (cell_at cs c.index) c.before) 22 k (demand_at (only_removes c.before c.after) 23 k (answers tt))))
unfolding passes applies_to
placed-is s n cs c k =
    let T₁ = cell_fits s c.after in
    let T₂ = ltb c.index n in
    let T₃ = same_cell (cell_at cs c.index) c.before in
    let T₄ = only_removes c.before c.after in
    placed-demand T₁ 8 k _ ∙ ap (demand_at T₁ 8 k) (placed-demand T₂ 21 k _ ∙ ap (demand_at T₂ 21 k) (placed-demand T₃ 22 k _ ∙ ap (demand_at T₃ 22 k) (placed-demand T₄ 23 k _ ∙ ap (demand_at T₄ 23 k) (placed-answers k tt))))

each-asks : (s : TurnStockSpec) (p : Paper ℕ) (n : ℕ) → p ≡ answers n → (cs : List Float) (k : ℕ) (l : List TurnChange) → Asks (each_from s n cs k l) (each_asks s p cs k l)
unfolding each_from each_asks
each-asks s p n e cs k [] = asks_none tt
each-asks s p n e cs k (c ∷ l) =
    asks-on (placed k (passes s n cs c)) _
    (asks-as (placed-is s n cs c k)
    (asks_at (cell_fits s c.after) 8 k
    (asks-of-at p n e (λ n. ltb c.index n) 21 k
    (asks_at (same_cell (cell_at cs c.index) c.before) 22 k
    (asks_at (only_removes c.before c.after) 23 k
    (asks_none tt))))))
    (λ _ _. each-asks s p n e cs (suc k) l)

pass-asks : (s : TurnStockSpec) (p : Paper ℕ) (n : ℕ) → p ≡ answers n → (cs : List Float) (l : List TurnChange) → Asks (pass_all s n cs l) (pass_asks s p cs l)
unfolding pass_all
pass-asks s p n e cs l = asks-found (first_fall l) 7 (each-asks s p n e cs 0 l)

commit-asks : (s : TurnStockSpec) (p : Paper ℕ) (n : ℕ) → p ≡ answers n → (cs : List Float) (gen : ℕ) (l : List TurnChange) → Asks (commit_in s n cs gen l) (commit_in_asks s p cs gen l)
unfolding commit_in
commit-asks s p n e cs gen l = asks-on (pass_all s n cs l) _ (pass-asks s p n e cs l) (λ _ _. asks-more (ltb gen last_generation) 12 (λ _. asks_none _))

-- one change, against n cells: 8, 21, 22, 23, of no place
pub change-exactly : (s : TurnStockSpec) (n : ℕ) (cs : List Float) (c : TurnChange) → Exactly (passes s n cs c) (change_asks s n cs c)
unfolding passes applies_to
change-exactly s n cs c =
    exactly (asks-more (cell_fits s c.after) 8 (λ _.
    asks-more (ltb c.index n) 21 (λ _.
    asks-more (same_cell (cell_at cs c.index) c.before) 22 (λ _.
    asks-more (only_removes c.before c.after) 23 (λ _.
    asks_none tt)))))

-- `first_refusal`, of changes on n cells: 7, then change by change 8, 21, 22, 23, each at its place
pub pass-exactly : (s : TurnStockSpec) (n : ℕ) (cs : List Float) (l : List TurnChange) → Exactly (pass_all s n cs l) (pass_asks s (answers n) cs l)
pass-exactly s n cs l = exactly (pass-asks s (answers n) n refl cs l)

-- `commit_unasked`, of changes on n cells that are not asked again: 7, then change by change 8, 21, 22, 23, then 12
pub commit-unasked-exactly : (s : TurnStockSpec) (n : ℕ) (cs : List Float) (gen : ℕ) (is : List ℕ) (xs : List Float) (k : ℕ)
    → Exactly (commit_held s n cs gen is xs k) (commit_in_asks s (answers n) cs gen (changes_from is xs (min k (change.room_of (length is) (length xs)))))
commit-unasked-exactly s n cs gen is xs k = exactly (commit-asks s (answers n) n refl cs gen _)

-- a stock that is asked for a commit: 1, 2, 3, 19, 20
asked-asks : (k : TurnStock) (cs bs : List Float) (st : Stamp) → Asks (asked_stock k cs bs st) (asked_asks k cs bs st)
unfolding asked_stock
asked-asks k cs bs st =
    asks-on (stock_of k.spec cs) _ (stock-asks k.spec cs) (λ n e.
    asks-more (same_stamp st k.stamp) 19 (λ _.
    asks_of (stock_of k.spec cs) n e (λ n. matches_of (clean_spec k.spec) n cs bs) 20
    (asks_none n)))

-- `asked_cells`: 1, 2, 3, 19, 20
pub asked-exactly : (k : TurnStock) (cs bs : List Float) (st : Stamp) → Exactly (asked_stock k cs bs st) (asked_asks k cs bs st)
asked-exactly k cs bs st = exactly (asked-asks k cs bs st)

-- `change_slices::apply`, a commit of a list of changes with its stamp: 1, 2, 3, 19, 20, 7, then change by change 8, 21, 22, 23, then 12
pub commit-exactly : (k : TurnStock) (cs bs : List Float) (st : Stamp) (l : List TurnChange) → Exactly (commit_of k cs bs st l) (commit_asks k cs bs st l)
unfolding commit_of
commit-exactly k cs bs st l =
    exactly (asks-on (asked_stock k cs bs st) _ (asked-asks k cs bs st) (λ n e.
    commit-asks (clean_spec k.spec) (stock_of k.spec cs) n (asked k cs bs st n e).stock cs k.stamp.generation l))

-- a stock's own list, of which no kept numbers are asked: 1, 2, 3, 7, then change by change 8, 21, 22, 23, then 12
own-asks : (spec : TurnStockSpec) (cs : List Float) (gen : ℕ) (l : List TurnChange) → Asks (own_commit spec cs gen l) (own_asks spec cs gen l)
unfolding own_commit
own-asks spec cs gen l = asks-on (stock_of spec cs) _ (stock-asks spec cs) (λ n e. commit-asks (clean_spec spec) (stock_of spec cs) n e cs gen l)

-- `outcome`, after `begin` and a `step` for each change, of a list that a machine can hold: 7, then change by change 8, 21, 22, 23
pub outcome-exactly : (s : TurnStockSpec) (n : ℕ) (cs : List Float) (l : List TurnChange) → length l ≤ last_place → Exactly (outcome_of (steps_of cs (on_cells s n) l)) (pass_asks s (answers n) cs l)
outcome-exactly s n cs l h = exactly (asks-as (outcome-is cs s n l h) (pass-asks s (answers n) n refl cs l))

-- `raised`, of changes that say p: what they say, 12
pub raised-exactly : (p : Paper (Unit {0})) (gen : ℕ) (l : List Asked) → Asks p l → Exactly (raised_of p gen) (l ++ (ask (ltb gen last_generation) 12 ∷ []))
unfolding raised_of
raised-exactly p gen l h = exactly (asks-on p _ h (λ _ _. asks-more (ltb gen last_generation) 12 (λ _. asks_none _)))

-- `apply`, a commit of a change list from the lent lists: the same, with 6 directly after 20
pub apply-exactly : (k : TurnStock) (cs bs : List Float) (list : ChangeList) (is : List ℕ) (xs : List Float) → Exactly (apply_of k cs bs list is xs) (apply_asks k cs bs list is xs)
unfolding apply_of
apply-exactly k cs bs list is xs =
    exactly (asks-on (asked_stock k cs bs list.stamp) _ (asked-asks k cs bs list.stamp) (λ n e.
    asks-more (leb list.count (change.room_of (length is) (length xs))) 6 (λ _.
    commit-asks (clean_spec k.spec) (stock_of k.spec cs) n (asked k cs bs list.stamp n e).stock cs k.stamp.generation (changes_from is xs list.count))))

-- ---- rings

-- a rule that is taken where the ring is not empty after clipping: what it asks is skipped where it is
skips : {A : Type 0} {p : Paper A} {a b : Bool} {m n : ℕ} (t : Bool) → Asks p (ask a m ∷ ask b n ∷ []) → (x : A) → Asks (pick t p (answers x)) (ask (not t || a) m ∷ ask (not t || b) n ∷ [])
unfolding pick demand
skips true h x = h
skips {m = m} {n = n} false h x = asks-more {p = demand true n (answers x)} true m (λ _. asks-more true n (λ _. asks_none x))

raised-asks : (room : ℕ) (ks : List Ring) (g : ℕ) (c : Ring) → Asks (stored_next room ks g c) (ask (ltb g last_generation) 12 ∷ ask (room_for room ks c) 11 ∷ [])
unfolding stored_next added
raised-asks room ks g c = asks-more (ltb g last_generation) 12 (λ _. asks-then (added room ks c) _ (asks-more (room_for room ks c) 11 (λ _. asks_none _)) (λ _ _. asks_none _))

remove-ring-asks : (spec : TurnStockSpec) (xs : List Float) (n g : ℕ) (q : Ring) → Asks (remove_ring spec xs n g q) (remove_asks spec xs n g q)
unfolding remove_ring remove_in
remove-ring-asks spec xs n g q =
    let e = bar_ring (clean_spec spec) in
    asks-on (cells_of spec) _ (spec-asks spec) (λ _ _.
    asks-more (count_fits e xs n) 4 (λ _.
    asks_at (finite_ring q) 10 0
    (skips (filled (clip e q)) (raised-asks (room_for_rings (length xs)) (rings_of n xs) g (clip e q)) _)))

-- `remove_ring`: 1, 2, 4, 10, 12, 11; a ring that is empty after clipping skips 12 and 11
pub remove-ring-exactly : (spec : TurnStockSpec) (xs : List Float) (n g : ℕ) (q : Ring) → Exactly (remove_ring spec xs n g q) (remove_asks spec xs n g q)
remove-ring-exactly spec xs n g q = exactly (remove-ring-asks spec xs n g q)

-- two tests of one number, one behind the other, are the test of both
both : {A : Type 0} {p : Paper A} (s t : Bool) (n : ℕ) → Asks p (ask t n ∷ []) → Asks (demand s n p) (ask (s && t) n ∷ [])
unfolding demand
both true t n h = h
both {p = p} false t n h = asks-more {p = p} false n (λ e. absurd (false≢true e))

-- rings one after the other: 11
added-asks : (e : Ring) (room : ℕ) (ks qs : List Ring) → Asks (added_all e room ks qs) (ask (room_for_all e room ks qs) 11 ∷ [])
unfolding added_all room_for_all added demand
added-asks e room ks [] = asks-more true 11 (λ _. asks_none ks)
added-asks e room ks (q ∷ qs) = asks-as (step (room_for room ks (clip e q))) (both (room_for room ks (clip e q)) _ 11 (added-asks e room (ks ++ left ks (clip e q)) qs))
  where
    step : (t : Bool) → onward (demand t 11 (answers (ks ++ left ks (clip e q)))) (λ l. added_all e room l qs) ≡ demand t 11 (added_all e room (ks ++ left ks (clip e q)) qs)
    step t = onward-demand t 11 _ _

rings-asks : (spec : TurnStockSpec) (xs : List Float) (n : ℕ) (removed : List Float) → Asks (remove_rings spec xs n removed) (remove_rings_asks spec xs n removed)
unfolding remove_rings remove_all_in
rings-asks spec xs n removed = asks-more (leb n (room_for_rings (length xs))) 4 (λ _. added-asks _ _ _ _)

-- the same where the count is known not to be over the room
rings-room : (spec : TurnStockSpec) (xs : List Float) (n : ℕ) (removed : List Float) → leb n (room_for_rings (length xs)) ≡ true → Asks (remove_rings spec xs n removed) (ask (all_stored spec xs n removed) 11 ∷ [])
unfolding remove_rings remove_all_in
rings-room spec xs n removed e = asks-as (demand-true _ 4 _ e) (added-asks _ _ _ _)

-- `remove_rings`, of a stock that is checked already: 4 for the count, 11
pub remove-rings-exactly : (spec : TurnStockSpec) (xs : List Float) (n : ℕ) (removed : List Float) → Exactly (remove_rings spec xs n removed) (remove_rings_asks spec xs n removed)
remove-rings-exactly spec xs n removed = exactly (rings-asks spec xs n removed)

-- `left_of`: 11
pub left-exactly : (ks : List Ring) (q : Ring) → Exactly (leaves ks q) (left_asks ks q)
unfolding leaves
left-exactly ks q = exactly (asks-more (in_hand piece_limit (kept q) ks) 11 (λ _. asks_none _))

-- ---- parts and moves

-- rings given, into an empty store: 10, 11
given-asks : (spec : TurnStockSpec) (given xs : List Float) → Asks (given_of spec given xs) (given_asks spec given xs)
unfolding given_of
given-asks spec given xs = asks-found (bad_ring given) 10 (rings-room spec xs 0 given (le-leb 0 (room_for_rings (length xs)) (omega arith)))

renew-asks : (spec : TurnStockSpec) (cs : List Float) (len : ℕ) → Asks (renew_of spec cs len) (renew_asks spec cs len)
unfolding renew_of
renew-asks spec cs len = asks-on (stock_of spec cs) _ (stock-asks spec cs) (λ n e. asks_of (stock_of spec cs) n e (λ n. eqb len (2 * blocks_in n)) 20 (asks_none n))

-- `from_parts`: 1, 2, 3, 20 for the count of kept numbers alone, 10, 11
pub parts-exactly : (spec : TurnStockSpec) (cs : List Float) (len : ℕ) (given xs : List Float) → Exactly (parts_of spec cs len given xs) (parts_asks spec cs len given xs)
unfolding parts_of
parts-exactly spec cs len given xs = exactly (asks-on (renew_of spec cs len) _ (renew-asks spec cs len) (λ _ _. given-asks spec given xs))

-- rings that pass refusal 4's test are no more than the room
fits-room : (e : Ring) (xs : List Float) (n : ℕ) → count_fits e xs n ≡ true → leb n (room_for_rings (length xs)) ≡ true
unfolding count_fits
fits-room e xs n h = (and_both (leb n (room_for_rings (length xs))) (store_fits e (rings_of n xs)) h).0

-- what is asked of a move before its changes: 4, 19, 20, 10
movable-asks : (k : TurnStock) (n : ℕ) (cs bs xs : List Float) (st : Stamp) (removed : List Float) → stock_of k.spec cs ≡ answers n → Asks (movable_of k n cs bs xs st removed) (movable_asks k cs bs xs st removed)
unfolding movable_of
movable-asks k n cs bs xs st removed e =
    asks-more (count_fits (bar_ring (clean_spec k.spec)) xs k.rings) 4 (λ _.
    asks-more (same_stamp st k.stamp) 19 (λ _.
    asks_of (stock_of k.spec cs) n e (λ n. matches_of (clean_spec k.spec) n cs bs) 20
    (asks-found (bad_ring removed) 10
    (asks_none tt))))

-- where it passes, the stored rings do
movable-fits : (k : TurnStock) (n : ℕ) (cs bs xs : List Float) (st : Stamp) (removed : List Float) → movable_of k n cs bs xs st removed ≡ answers tt → count_fits (bar_ring (clean_spec k.spec)) xs k.rings ≡ true
unfolding movable_of
movable-fits k n cs bs xs st removed e = (demanded _ _ _ _ e).0

-- the rings of a move, behind 4: 12, 11
rings-moved-asks : (k : TurnStock) (xs removed : List Float) → count_fits (bar_ring (clean_spec k.spec)) xs k.rings ≡ true → Asks (rings_moved k xs removed) (rings_moved_asks k xs removed)
unfolding rings_moved
rings-moved-asks k xs removed f =
    asks-more (leb (generation_after k.spec k.stamp.generation removed) last_generation) 12 (λ _.
    asks-then (remove_rings k.spec xs k.rings removed) _ (rings-room k.spec xs k.rings removed (fits-room (bar_ring (clean_spec k.spec)) xs k.rings f)) (λ _ _. asks_none _))

-- of a move whose changes say p, by the tests m
taken-asks : (k : TurnStock) (n : ℕ) (cs bs xs : List Float) (st : Stamp) (p : Paper (Unit {0})) (m : List Asked) (removed : List Float) → stock_of k.spec cs ≡ answers n → Asks p m
    → Asks (taken_of k n cs bs xs st p removed) (movable_asks k cs bs xs st removed ++ (m ++ rings_moved_asks k xs removed))
unfolding taken_of
taken-asks k n cs bs xs st p m removed e h =
    asks-on (movable_of k n cs bs xs st removed) _ (movable-asks k n cs bs xs st removed e) (λ _ f. asks-on p _ h (λ _ _. rings-moved-asks k xs removed (movable-fits k n cs bs xs st removed f)))

-- `take_rings`, on n cells that are checked: 4, 19, 20, 10, what the changes say, 12, 11
pub taken-exactly : (k : TurnStock) (n : ℕ) (cs bs xs : List Float) (st : Stamp) (p : Paper (Unit {0})) (m : List Asked) (removed : List Float) → stock_of k.spec cs ≡ answers n → Asks p m
    → Exactly (taken_of k n cs bs xs st p removed) (movable_asks k cs bs xs st removed ++ (m ++ rings_moved_asks k xs removed))
taken-exactly k n cs bs xs st p m removed e h = exactly (taken-asks k n cs bs xs st p m removed e h)

move_asks : (k : TurnStock) (n : ℕ) (cs bs xs : List Float) (st : Stamp) (l : List TurnChange) (removed : List Float) → stock_of k.spec cs ≡ answers n → Asks (move_in k n cs bs xs st l removed) (move_in_asks k cs bs xs st l removed)
unfolding move_in
move_asks k n cs bs xs st l removed e =
    asks-then (taken_of k n cs bs xs st (pass_all (clean_spec k.spec) n cs l) removed) _ (taken-asks k n cs bs xs st _ _ removed e (pass-asks (clean_spec k.spec) (stock_of k.spec cs) n e cs l)) (λ _ _. asks_none _)

-- `change_slices::apply_move`, of a list of changes with its stamp: 1, 2, 3, 4, 19, 20, 10, 7, then change by change 8, 21, 22, 23, then 12, 11
pub move-list-exactly : (k : TurnStock) (cs bs xs : List Float) (st : Stamp) (l : List TurnChange) (removed : List Float) → Exactly (move_list_of k cs bs xs st l removed) (move_list_asks k cs bs xs st l removed)
unfolding move_list_of
move-list-exactly k cs bs xs st l removed = exactly (asks-on (stock_of k.spec cs) _ (stock-asks k.spec cs) (λ n e. move_asks k n cs bs xs st l removed e))

-- `apply_move`, of a change list from the lent lists: the same, with 6 directly after 3
pub move-exactly : (k : TurnStock) (cs bs xs : List Float) (list : ChangeList) (is : List ℕ) (ys : List Float) (removed : List Float) → Exactly (move_of k cs bs xs list is ys removed) (asks_of_move k cs bs xs list is ys removed)
unfolding move_of
move-exactly k cs bs xs list is ys removed =
    exactly (asks-on (stock_of k.spec cs) _ (stock-asks k.spec cs) (λ n e.
    asks-more (leb list.count (change.room_of (length is) (length ys))) 6 (λ _.
    move_asks k n cs bs xs list.stamp (changes_from is ys list.count) removed e)))

-- ---- proposed cuts

-- `passes::check`: 1, 2, 3, 20, 25; a verdict is no refusal
pub check-exactly : (k : TurnStock) (cs bs ts : List Float) (ls : Cuts) (room numbers : ℕ) → Exactly (check_of k cs bs ts ls room numbers) (check_asks k.spec cs bs ts ls.kinds room numbers)
unfolding check_of checkable_of
check-exactly k cs bs ts ls room numbers =
    exactly (asks-then (checkable_of k.spec cs bs ts ls.kinds room numbers) _
    (asks-on (stock_of k.spec cs) _ (stock-asks k.spec cs) (λ n e.
    asks_of (stock_of k.spec cs) n e (λ n. eqb room (4 * n)) 3
    (asks_of (stock_of k.spec cs) n e (λ n. matches_of (clean_spec k.spec) n cs bs) 20
    (asks_of (stock_of k.spec cs) n e (λ n. eqb numbers (2 * blocks_in n)) 20
    (asks_of (stock_of k.spec cs) n e (λ n. cuts_good ls.kinds && targets_good ts n) 25
    (asks_none n))))))
    (λ _ _. asks_none _))

-- `passes::propose::propose`: 1, 2, 3, 25 of the targets, 5 of the nose's radius
pub propose-exactly : (spec : TurnStockSpec) (cs ts : List Float) (rn : Float) (room : ℕ) → Exactly (propose_of spec cs ts rn room) (propose_asks spec cs ts rn)
unfolding propose_of
propose-exactly spec cs ts rn room =
    exactly (asks-on (stock_of spec cs) _ (stock-asks spec cs) (λ n e.
    asks_of (stock_of spec cs) n e (λ n. targets_good ts n) 25
    (asks-more (nose_good (clean_of rn)) 5 (λ _.
    asks_none _))))

-- ---- volume and `envelope_at`

-- `volume`: 1, 2, 3, 4
pub volume-exactly : (spec : TurnStockSpec) (cs xs : List Float) (k : ℕ) → Exactly (volume_of spec cs xs k) (volume_asks spec cs xs k)
unfolding volume_of
volume-exactly spec cs xs k = exactly (asks-on (stock_of spec cs) _ (stock-asks spec cs) (λ _ _. asks-more (count_fits (bar_ring (clean_spec spec)) xs k) 4 (λ _. asks_none _)))

-- `envelope_at`: 1, 2, 3, whatever z is
pub envelope-at-exactly : (spec : TurnStockSpec) (cs : List Float) (z : Float) → Exactly (envelope_at spec cs z) (stock_asks spec cs)
unfolding envelope_at
envelope-at-exactly spec cs z = exactly (asks-then (stock_of spec cs) _ (stock-asks spec cs) (λ _ _. asks_none _))

-- `shown` answers a band that it is handed, and refuses nothing

-- ---- stock files

-- `stock_file::finish`: 16 at a line, over the whole file; then 1, 2, 3, 4
pub finish-exactly : (r : Reading) (most : ℕ) (cs rs : List Float) → Exactly (told_as r most cs rs) (file_asks r most cs rs)
unfolding told_as stock_in
finish-exactly r most cs rs =
    let s : TurnStockSpec = spec_of r.bar most in
    exactly (asks_at (not r.refused) 16 r.lines (asks-on (stock_of s (front_of r.cells cs)) _ (stock-asks s (front_of r.cells cs)) (λ _ _. asks-more (count_fits (bar_ring (clean_spec s)) rs r.rings) 4 (λ _. asks_none _))))

-- `line_count`: 1, 2, 3, 4
pub line-count-exactly : (spec : TurnStockSpec) (cs rs : List Float) (m : ℕ) → Exactly (line_count spec cs rs m) (volume_asks spec cs rs m)
unfolding line_count
line-count-exactly spec cs rs m = exactly (asks-on (stock_of spec cs) _ (stock-asks spec cs) (λ _ _. asks-more (count_fits (bar_ring (clean_spec spec)) rs m) 4 (λ _. asks_none _)))

-- `file_line`: 1, 2, 3 for the length alone, 4 for the count alone
pub file-line-exactly : (stock : TurnStock) (cs rs : List Float) (k : ℕ) → Exactly (line_for stock cs rs k) (file_line_asks stock.spec cs rs stock.rings)
unfolding line_for
file-line-exactly stock cs rs k = exactly (asks-on (new_of stock.spec (length cs)) _ (new-asks stock.spec (length cs)) (λ _ _. asks-more (leb stock.rings (room_for_rings (length rs))) 4 (λ _. asks_none _)))

-- `side_by_side::compare`: 24, 11
pub compare-exactly : (s : TurnStockSpec) (a : Side) (t : TurnStockSpec) (b : Side) → Exactly (compared_of s a t b) (compare_asks s a t b)
unfolding compared_of
compare-exactly s a t b = exactly (asks-more (same_bar s t) 24 (λ _. asks-more (both_in_hand a b) 11 (λ _. asks_none _)))

-- ---- kept numbers and ranges

kept-asks : (spec : TurnStockSpec) (cs bs : List Float) → Asks (kept_stock spec cs bs) (kept_asks spec cs bs)
unfolding kept_stock
kept-asks spec cs bs = asks-on (stock_of spec cs) _ (stock-asks spec cs) (λ n e. asks_of (stock_of spec cs) n e (λ n. matches_of (clean_spec spec) n cs bs) 20 (asks_none n))

-- `kept_cells`: 1, 2, 3, 20
pub kept-exactly : (spec : TurnStockSpec) (cs bs : List Float) → Exactly (kept_stock spec cs bs) (kept_asks spec cs bs)
kept-exactly spec cs bs = exactly (kept-asks spec cs bs)

-- `renew`: 1, 2, 3, and 20 for the count of the lent numbers alone
pub renew-exactly : (spec : TurnStockSpec) (cs : List Float) (len : ℕ) → Exactly (renew_of spec cs len) (renew_asks spec cs len)
renew-exactly spec cs len = exactly (renew-asks spec cs len)

-- `range`: 1, 2, 3, 20, whatever its ends are; `range_kept`, which asks nothing, refuses nothing
pub range-exactly : (spec : TurnStockSpec) (cs bs : List Float) (lo hi : Float) → Exactly (range_of spec cs bs lo hi) (kept_asks spec cs bs)
unfolding range_of
range-exactly spec cs bs lo hi = exactly (asks-then (kept_stock spec cs bs) _ (kept-asks spec cs bs) (λ _ _. asks_none _))

-- ---- envelopes: 14

-- `order_of`
pub order-exactly : (ps : List Float) → Exactly (ordered_of ps) (points_asks ps)
unfolding ordered_of
order-exactly ps = exactly (asks-more (points_good ps) 14 (λ _. asks_none _))

within-asks : (ps : List Float) (lo hi : Float) → Asks (within_of ps lo hi) (within_asks ps lo hi)
unfolding within_of
within-asks ps lo hi = asks-more (points_good ps && (usable lo && usable hi)) 14 (λ _. asks_none _)

-- `within_span`
pub within-exactly : (ps : List Float) (lo hi : Float) → Exactly (within_of ps lo hi) (within_asks ps lo hi)
within-exactly ps lo hi = exactly (within-asks ps lo hi)

-- `within_refusal`, which says whether `within` is refused: the same
pub within-refusal-exactly : (ps : List Float) (lo hi : Float) → Exactly (within_refusal_of ps lo hi) (within_asks ps lo hi)
unfolding within_refusal_of
within-refusal-exactly ps lo hi = exactly (asks-then (within_of ps lo hi) _ (within-asks ps lo hi) (λ _ _. asks_none tt))

-- `radius_at`
pub radius-at-exactly : (ps : List Float) (u : Float) → Exactly (radius_at_of ps u) (radius_asks ps u)
unfolding radius_at_of
radius-at-exactly ps u = exactly (asks-more (points_good ps && usable u) 14 (λ _. asks_none _))

-- `radius_range`
pub radius-range-exactly : (ps : List Float) (lo hi : Float) → Exactly (radius_range_of ps lo hi) (within_asks ps lo hi)
unfolding radius_range_of
radius-range-exactly ps lo hi = exactly (asks-more (points_good ps && (usable lo && usable hi)) 14 (λ _. asks_none _))

-- ---- a line of a job

bar-asks : (edition : ℕ) (spec : TurnStockSpec) (cs rs : List Float) → Asks (bar_line edition spec cs rs) (bar_asks spec cs)
unfolding bar_line
bar-asks edition spec cs rs = asks-on (cells_of spec) _ (spec-asks spec) (λ n e. asks_of (cells_of spec) n e (λ n. leb (4 * n) (length cs)) 3 (asks_none _))

-- a cut: the changes that are committed are those that the preview answers
cut-asks : (j : Job) (cut : Cut) (room : ℕ) (cs rs : List Float) → Asks (cut_line j cut room cs rs) (cut_line_asks j cut room cs)
unfolding cut_line made_cut
cut-asks j cut room cs rs =
    let own = cells_of_job j cs in
    let k = j.stock in
    asks-then (made_cut k own cut room) _
    (asks-on (preview_cut k.spec own cut room) _ (preview-cut-asks k.spec own cut room) (λ l e.
    subst (λ (p : Paper (List TurnChange)). Asks (own_commit k.spec own k.stamp.generation l) (own_asks k.spec own k.stamp.generation (written_of p))) (sym e) (own-asks k.spec own k.stamp.generation l)))
    (λ _ _. asks_none _)

ring-asks : (j : Job) (q : Ring) (cs rs : List Float) → Asks (removing_line j q cs rs) (remove_asks j.stock.spec rs j.stock.rings j.stock.stamp.generation q)
unfolding removing_line
ring-asks j q cs rs =
    let k = j.stock in
    asks-then (remove_ring k.spec rs k.rings k.stamp.generation q) _ (remove-ring-asks k.spec rs k.rings k.stamp.generation q) (λ _ _. asks_none _)

first-line-asks : (edition : ℕ) (l : Line) (cs rs : List Float) → Asks (first_line edition l cs rs) (first_line_asks l cs)
unfolding first_line first_line_asks
first-line-asks edition (Bar spec) cs rs = bar-asks edition spec cs rs
first-line-asks edition (Cutting cut) cs rs = asks-fails 15 refl
first-line-asks edition (Removing q) cs rs = asks-fails 15 refl
first-line-asks edition Arc cs rs = asks-fails 15 refl
first-line-asks edition Bad cs rs = asks-fails 15 refl

later-line-asks : (j : Job) (l : Line) (room : ℕ) (cs rs : List Float) → Asks (later_line j l room cs rs) (later_line_asks j l room cs rs)
unfolding later_line later_line_asks
later-line-asks j (Bar spec) room cs rs = asks-fails 15 refl
later-line-asks j (Cutting cut) room cs rs = cut-asks j cut room cs rs
later-line-asks j (Removing q) room cs rs = ring-asks j q cs rs
later-line-asks j Arc room cs rs = asks-fails 13 refl
later-line-asks j Bad room cs rs = asks-fails 15 refl

-- a rule that is one of two, by a test
either : {A : Type 0} {p q : Paper A} {l m : List Asked} (t : Bool) → Asks p l → Asks q m → Asks (pick t p q) (pick t l m)
unfolding pick
either true h k = h
either false h k = k

-- `carry_out`, of a line without its newline: 15 where it is too long; before the bar 15 for anything else, and a bar's 1, 2, 3; later 15 for a line that cannot be read and for a second bar,
-- 13 for an arc, and what its call asks for a cut or a ring
pub line-exactly : (j : Job) (s : List ℕ) (room : ℕ) (cs rs : List Float) → Exactly (job_line j s room cs rs) (line_asks j s room cs rs)
unfolding job_line
line-exactly j s room cs rs = exactly (asks-more (ltb (length s) line_limit) 15 (λ _. either (eqb j.cells 0) (first-line-asks j.stock.stamp.edition (line_of s) cs rs) (later-line-asks j (line_of s) room cs rs)))

-- ---- profiles: 17, 18

chords-asks : (room : ℕ) (o : Option (List Chord)) → Asks (profile.room_for room o) (ask (chords_fit room o) 18 ∷ [])
unfolding profile.room_for demand
chords-asks room None = asks-more {p = answers []} false 18 (λ _. asks_none [])
chords-asks room (Some l) = asks-more (leb (length l) room) 18 (λ _. asks_none l)

-- `segments`: 17, 18
pub segments-exactly : (xs : List Float) (tol : Float) (room : ℕ) → Exactly (segments_of xs tol room) (segments_asks xs tol room)
unfolding segments_of
segments-exactly xs tol room = exactly (asks-more (profile_good xs tol) 17 (λ _. chords-asks room (profile_chords xs tol)))

-- ---- an insert: 14

-- `excess` and `penetration`
pub touch-exactly : (w : Which) (ps gs : List Float) (t : Float) → Exactly (touched w ps gs t) (insert_asks ps gs t)
unfolding touched
touch-exactly w ps gs t = exactly (asks-more (touch_asks ps gs t) 14 (λ _. asks_none _))

-- `eroded`
pub eroded-exactly : (ps : List Float) (u t : Float) → Exactly (eroded_of ps u t) (eroding_asks ps u t)
unfolding eroded_of
eroded-exactly ps u t = exactly (asks-more (eroded_asks ps u t) 14 (λ _. asks_none _))
