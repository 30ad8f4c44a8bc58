-- THE SECOND DEMAND: what a call answers and leaves is what its rule says. Each call's promise is that, over the definitions of the crates below; what follows says in plain
-- words what those definitions come to, and so which programs no promise admits. Assumes nothing.
--
-- The programs that 01 excludes by name, and what excludes each:
-- - A preview that refuses always: `preview-accepts` here, and "exactly when" in `First` (`preview-cut-exactly`, `preview-nose-exactly`, `preview-polygon-exactly`).
--   Edits of crate `cuts` that refuse every cut in its domain: `preview_refuses_always`, `nose_refuses_always`.
-- - A preview that finds no change, or a fixed list: `preview-lists` here: the change of each bin whose cell the cut changes is listed, and no other.
--   Edits: `changes_of_the_first_bin` (crate `cuts`); `difference_of_the_first_with_itself` (crate `changes`), which finds no change.
-- - A commit that writes nothing, or the first change only: `commit-writes` here. Edits of crate `changes`: `commit_writes_its_first_bin_only`, and
--   `commit_writes_the_before_cells`, which leaves the cells as they were.
-- - A move that stores its first ring and merely raises the generation for the others: `move-writes` and `move-call-writes` here, and `moved-covers` in `Rings`.
--   Edit of crate `moves`: `first_ring_only_stored`.
-- - A change count that does not equal the records written: `preview-writes` here. Edits: `every_bin_counted` of this crate, `equal_cells_counted` of crate `changes`.
-- Of the chords of a profile (`segments`), the laws of crate `profile`: `chords-join`, `chords-ends`, `chords-within`, `chords-finite`, `chords-count` (`proofs/Laws`), `line-sag` (`proofs/Lines`),
-- and `chords-cut` in `Arcs`. Edits of crate `profile`: `second_half_with_the_whole_bulge`, `refused_call_wrote`.
use Rattle.std.specs.Prelude.{Ok}
use mathlib.Core.Path.{◌≡◌, refl, sym, ap, ◌∙◌, subst}
use mathlib.Core.Bool.{true, false, ◌||◌}
use mathlib.Core.List.{List, map}
use Prim.Native.Nat.{ℕ, suc, ◌+◌, ◌/◌, ◌≤◌, ◌<◌}
use lib.Dec.{T, leb}
use lib.IntN.{ℤ}
use lib.ListN.{length}
use lib.Ieee.{Float, binary64, fin, fits}
use Rattle.refusals.specs.Paper.{Paper, answers, refuses}
use Rattle.refusals.specs.Limits.{last_generation}
use Rattle.refusals.specs.Lent.{over}
use Rattle.numbers.specs.Root.{root_within, units_of}
use Rattle.numbers.proofs.Nearest.{root-of, root-fits, root-nearest}
use Rattle.stock.specs.declared.TurnStockSpec.{TurnStockSpec}
use Rattle.stock.specs.declared.TurnChange.{TurnChange}
use Rattle.stock.specs.Spec.{clean_spec}
use Rattle.stock.specs.Cell.{cell_at, stock_of}
use Rattle.stock.specs.declared.TurnStock.{TurnStock}
use Rattle.stock.specs.declared.Stamp.{Stamp}
use Rattle.stock.specs.Stock.{stock_with}
use Rattle.changes.specs.declared.ChangeList.{ChangeList}
use Rattle.stock.proofs.Count.{demanded, no_answer, same_answer, stocked}
use Rattle.stock.proofs.Bins.{HeldSpec, HeldList}
use Rattle.stock.proofs.Stamps.{stamps-agree}
use Rattle.reach.specs.Reach.{act_cell}
use Rattle.changes.specs.Change.{changes_to, changes_from, indices_of, numbers_of, room_of, Proposed}
use Rattle.changes.proofs.ReadBack.{read_back}
use Rattle.cuts.specs.Preview.{preview_of, preview_cut}
use Rattle.changes.specs.Commit.{Committed, put_all, commit_in, asked_stock, apply_of, generation_of, stock_at, cells_after, Applies}
use Rattle.changes.specs.Difference.{other_cell, difference_of}
use Rattle.changes.proofs.Stamped.{Matching}
use Rattle.changes.proofs.Kept.{asked}
use Rattle.changes.proofs.Stocks.{stock-good}
use Rattle.changes.proofs.Accepted.{good-bins}
use Rattle.changes.proofs.Proposal.{act-cuts}
use Rattle.changes.proofs.Becomes.{difference-is}
use Rattle.rings.specs.declared.Ring.{Ring}
use Rattle.rings.specs.Ring.{covered, clip}
use Rattle.rings.specs.Store.{bar_ring, rings_of}
use Rattle.moves.specs.Move.{Left, generation_after, move_of, Moves}
use Rattle.moves.proofs.Answered.{answered}
use Rattle.moves.proofs.Accepted.{taken}
use Rattle.cuts.specs.declared.Tool.{Tool}
use Rattle.cuts.specs.declared.Tool.TheVariants.{Single, Nose, Polygon}
use Rattle.cuts.specs.Tool.{preview_tool}
use Rattle.demands.specs.Tool.{Cutter, cutter_act, cutter_preview, cutter_good, HeldCutter}
use Rattle.demands.specs.Wrote.{NearestRoot, Lists, Previews, Writes}
use Rattle.demands.proofs.InTurn.{lent-commits}
use Rattle.demands.proofs.Tools.{tool-sound, accepted-good, good-accepted, tool-rule}
use Rattle.demands.proofs.Rings.{left_by, moved-covers}
use Rattle.demands.proofs.Written.{changes-list, changes-written}

-- ---- the root

-- THE ROOT of a finite value above 0 is the nearest value of binary64. (That of either zero is +0.0 by the rule, and every other x is refused: `root-exactly` in `First`.)
pub root-is-nearest : (m : ℕ) (e : ℤ) → T (fits binary64 (fin false (suc m) e)) → NearestRoot (fin false (suc m) e)
root-is-nearest m e f = record { root = root_within (units_of (fin false (suc m) e)); answer = root-of m e f; held = root-fits m e f; nearest = root-nearest m e f }

-- ---- previews

-- A PREVIEW DOES NOT REFUSE ALWAYS: of a cut that is no arc and in its domain, on a stock that is not refused, with room for a change in every cell, it answers.
pub preview-accepts : (spec : TurnStockSpec) (n : ℕ) (t : Cutter) (cs : List Float) (room : ℕ) → stock_of spec cs ≡ answers n → n ≤ room → cutter_good t ≡ true → cutter_preview spec t cs room ≡ answers (changes_to (act_cell (cutter_act spec t)) cs n)
preview-accepts = good-accepted

stock-by : (spec : TurnStockSpec) (t : Tool) (ys cs : List Float) (room : ℕ) (l : List TurnChange) → preview_tool spec cs t ys room ≡ answers l → (n : ℕ) × (stock_of spec cs ≡ answers n)
unfolding preview_tool preview_cut preview_of
stock-by spec (Single u) ys cs room l e = let a = answered (stock_of spec cs) _ l e in (a.value, a.first)
stock-by spec (Nose side rn) ys cs room l e = let a = answered (stock_of spec cs) _ l e in (a.value, a.first)
stock-by spec (Polygon side excess) ys cs room l e = let a = answered (stock_of spec cs) _ l e in (a.value, a.first)

preview-stock : (spec : TurnStockSpec) (t : Cutter) (cs : List Float) (room : ℕ) (l : List TurnChange) → cutter_preview spec t cs room ≡ answers l → (n : ℕ) × (stock_of spec cs ≡ answers n)
preview-stock spec t = stock-by spec t.tool t.beside

-- An accepted preview is of a stock that is not refused, and what it lists are the changes of the cut.
pub preview-is : (spec : TurnStockSpec) (t : Cutter) (cs : List Float) (room : ℕ) (l : List TurnChange) → cutter_preview spec t cs room ≡ answers l → (n : ℕ) × (stock_of spec cs ≡ answers n) × (l ≡ changes_to (act_cell (cutter_act spec t)) cs n)
preview-is spec t cs room l e =
    let s = preview-stock spec t cs room l e in
    let k : List TurnChange = changes_to (act_cell (cutter_act spec t)) cs s.0 in
    let p = (demanded (leb (length k) room) 6 (answers k) l (sym (tool-rule spec s.0 t (accepted-good spec t cs room l e) cs room s.1) ∙ e)).1 in
    (s.0, s.1, sym (same_answer p))

-- WHAT IT LISTS: the change of each bin whose cell the cut changes, with the cell before and the cell that the cut makes of it, and no other change; by rising index.
pub preview-lists : (spec : TurnStockSpec) (t : Cutter) (cs : List Float) (room : ℕ) (l : List TurnChange) → cutter_preview spec t cs room ≡ answers l → (n : ℕ) × (stock_of spec cs ≡ answers n) × Lists (act_cell (cutter_act spec t)) cs n l
preview-lists spec t cs room l e =
    let p = preview-is spec t cs room l e in
    (p.0, p.1, subst (Lists (act_cell (cutter_act spec t)) cs p.0) (sym p.2) (changes-list (act_cell (cutter_act spec t)) cs p.0))

-- a proposal that answered with a list: it has the stock's stamp, its changes are as many as it counts, and they read back from the first records
record Read (st : Stamp) (p : Paper (List TurnChange)) (list : ChangeList) (is is' : List ℕ) (xs xs' : List Float) : Type 0 where
  changes : List TurnChange
  answer : p ≡ answers changes
  stamp : list.stamp ≡ st
  count : list.count ≡ length changes
  records : changes_from is' xs' list.count ≡ changes
  indices : is' ≡ over (indices_of changes) is
  numbers : xs' ≡ over (numbers_of changes) xs

read : {st : Stamp} {list : ChangeList} {is is' : List ℕ} {xs xs' : List Float} (p : Paper (List TurnChange)) → Proposed st p (Ok list) is is' xs xs' → Read st p list is is' xs xs'
read {st} {list} (refuses n) h = absurd (no_answer n list (sym h.answer))
read {st} {list} {is} {is'} {xs} {xs'} (answers l) h =
    let v : list ≡ record { count = length l; stamp = st } = same_answer h.answer in
    let e : list.count ≡ length l = ap (λ (x : ChangeList). x.count) v in
    let i : is' ≡ over (indices_of l) is = h.indices in
    let x : xs' ≡ over (numbers_of l) xs = h.numbers in
    record { changes = l; answer = refl; stamp = ap (λ (y : ChangeList). y.stamp) v; count = e; records = (λ j. changes_from (i j) (x j) (e j)) ∙ read_back l is xs; indices = i; numbers = x }

-- WHAT IT WRITES: a preview that answers a list leaves as many records as it counts, and those are the changes of the cut; the rest of the lists is as it was. The list has the stamp of the stock that was previewed.
pub preview-writes : (k : TurnStock) (t : Cutter) (cs : List Float) (list : ChangeList) (is is' : List ℕ) (xs xs' : List Float) → Proposed k.stamp (cutter_preview k.spec t cs (room_of (length is) (length xs))) (Ok list) is is' xs xs'
    → Previews k.spec t cs list.count is is' xs xs' × (list.stamp ≡ k.stamp)
preview-writes k t cs list is is' xs xs' h =
    let room = room_of (length is) (length xs) in
    let w = read (cutter_preview k.spec t cs room) h in
    let p = preview-lists k.spec t cs room w.changes w.answer in
    (record { bins = p.0; stock = p.1; changes = w.changes; lists = p.2; count = w.count; records = w.records; indices = w.indices; numbers = w.numbers }, w.stamp)

-- ---- the difference

-- WHAT IT LISTS: the bins whose cells are unequal, each with the first stock's cell before and the second's after, and no other; by rising index.
pub difference-lists : (spec : TurnStockSpec) (cs ds : List Float) (room : ℕ) (l : List TurnChange) → difference_of spec cs ds room ≡ answers l → (n : ℕ) × (stock_of spec cs ≡ answers n) × Lists (other_cell ds) cs n l
unfolding difference_of
difference-lists spec cs ds room l e =
    let s = difference-stock spec cs ds room l e in
    (s.0, s.1, subst (Lists (other_cell ds) cs s.0) (sym (difference-is spec cs ds s.0 room l s.1 e)) (changes-list (other_cell ds) cs s.0))
  where
    difference-stock : (spec : TurnStockSpec) (cs ds : List Float) (room : ℕ) (l : List TurnChange) → difference_of spec cs ds room ≡ answers l → (n : ℕ) × (stock_of spec cs ≡ answers n)
    difference-stock spec cs ds room l e = let a = answered (stock_of spec cs) _ l e in (a.value, a.first)

-- ---- commits

-- WHAT A COMMIT WRITES: each change of the list, and no other bin; the generation rises by 1, also with no changes. The list has the stock's stamp: its edition and its generation.
pub commit-writes : (k : TurnStock) (cs bs : List Float) (list : ChangeList) (is : List ℕ) (xs : List Float) (m : Committed) → apply_of k cs bs list is xs ≡ answers m
    → Writes (changes_from is xs list.count) cs m.cells × (m.generation ≡ k.stamp.generation + 1) × (list.stamp ≡ k.stamp)
unfolding apply_of commit_in
commit-writes k cs bs list is xs m h =
    let l = changes_from is xs list.count in
    let s = answered (asked_stock k cs bs list.stamp) _ m h in
    let f = asked k cs bs list.stamp s.value s.first in
    let d6 = demanded _ _ _ _ s.then in
    let p = answered _ _ _ d6.1 in
    let d12 = demanded _ _ _ _ p.then in
    let v : ◌≡◌ {A = Committed} (record { cells = put_all cs l; generation = k.stamp.generation + 1 }) m = same_answer d12.1 in (
      subst (λ (y : Committed). Writes l cs y.cells) v (changes-written k.spec cs s.value l f.stock p.first),
      sym (ap (λ (y : Committed). y.generation) v),
      stamps-agree list.stamp k.stamp f.own,
    )

-- the same of the call: what it leaves in the lent cells, and the stock that it answers, whose edition and rings are as they were
pub commit-call-writes : (k k' : TurnStock) (cs cs' bs : List Float) (list : ChangeList) (is : List ℕ) (xs : List Float) → Applies k (apply_of k cs bs list is xs) (Ok k') cs cs'
    → Writes (changes_from is xs list.count) cs cs' × (k' ≡ stock_with k k.rings (k.stamp.generation + 1)) × (list.stamp ≡ k.stamp)
commit-call-writes k k' cs cs' bs list is xs a = go (apply_of k cs bs list is xs) refl a.answer a.cells
  where
    go : (p : Paper Committed) → apply_of k cs bs list is xs ≡ p → answers k' ≡ stock_at k (generation_of p) → cs' ≡ cells_after p cs
        → Writes (changes_from is xs list.count) cs cs' × (k' ≡ stock_with k k.rings (k.stamp.generation + 1)) × (list.stamp ≡ k.stamp)
    go (refuses n) e b c = absurd (no_answer n k' (sym b))
    go (answers m) e b c =
        let w = commit-writes k cs bs list is xs m e in
        (subst (Writes (changes_from is xs list.count) cs) (sym c) w.0, same_answer b ∙ ap (stock_with k k.rings) w.1, w.2)

-- PREVIEWS ALWAYS COMMIT: what a preview left in the lists, a commit of its list to the same stock accepts while generations last, with kept numbers that match the cells; each cell is then what the cut makes of it.
pub previews-commit : (k : TurnStock) (n : ℕ) (t : Cutter) → HeldSpec k.spec → HeldCutter t → (cs bs : List Float) → HeldList cs → Matching k.spec cs bs → stock_of k.spec cs ≡ answers n
    → (list : ChangeList) (is is' : List ℕ) (xs xs' : List Float) → k.stamp.generation < last_generation → Proposed k.stamp (cutter_preview k.spec t cs (room_of (length is) (length xs))) (Ok list) is is' xs xs'
    → (m : Committed) × (apply_of k cs bs list is' xs' ≡ answers m) × (m.generation ≡ k.stamp.generation + 1) × ((i : ℕ) → i < n → cell_at m.cells i ≡ act_cell (cutter_act k.spec t) i (cell_at cs i))
previews-commit k n t hs ht cs bs hc m e list is is' xs xs' h p =
    let spec = k.spec in
    let room = room_of (length is) (length xs) in
    let w = read (cutter_preview spec t cs room) p in
    let s = tool-sound spec n hs (stocked spec cs n e).count t ht (accepted-good spec t cs room w.changes w.answer) in
    let g = stock-good hs hc e in
    let f = act_cell (cutter_act spec t) in
    (record { cells = put_all cs (changes_to f cs n); generation = k.stamp.generation + 1 }, lent-commits k s hs cs bs hc m e list is is' xs xs' h p, refl, good-bins g f (act-cuts g (cutter_act spec t) s.plain))

-- ---- moves

-- WHAT A MOVE LEAVES: each change in its bin and no other bin touched; every point that was covered or that one of its rings covers, clipped to the stock; the generation
-- raised by 1 for the commit and by 1 for each ring that is not empty after clipping.
pub move-writes : (k : TurnStock) (cs bs xs : List Float) (list : ChangeList) (is : List ℕ) (ys : List Float) (removed : List Float) (a : Left) → move_of k cs bs xs list is ys removed ≡ answers a
    → Writes (changes_from is ys list.count) cs a.cells × ((z r : Float) → covered a.rings z r ≡ (covered (rings_of k.rings xs) z r || covered (map (clip (bar_ring (clean_spec k.spec))) (rings_of (length removed / 4) removed)) z r))
    × (a.generation ≡ generation_after k.spec k.stamp.generation removed)
move-writes k cs bs xs list is ys removed a h =
    let t = taken k cs bs xs list is ys removed a h in
    (subst (Writes (changes_from is ys list.count) cs) (sym t.cells) (changes-written k.spec cs t.bins (changes_from is ys list.count) t.counted t.pass), moved-covers k cs bs xs list is ys removed a h, t.rises)

-- the same of the call: what it leaves in the lent cells and rings, and the stock that it answers, whose edition is as it was
pub move-call-writes : (k k' : TurnStock) (cs cs' bs xs xs' : List Float) (list : ChangeList) (is : List ℕ) (ys : List Float) (removed : List Float) → Moves k (move_of k cs bs xs list is ys removed) (Ok k') cs cs' xs xs'
    → Writes (changes_from is ys list.count) cs cs' × ((z r : Float) → covered (rings_of k'.rings xs') z r ≡ (covered (rings_of k.rings xs) z r || covered (map (clip (bar_ring (clean_spec k.spec))) (rings_of (length removed / 4) removed)) z r))
    × (k' ≡ stock_with k k'.rings (generation_after k.spec k.stamp.generation removed))
move-call-writes k k' cs cs' bs xs xs' list is ys removed m =
    let t = left_by m in
    let w = move-writes k cs bs xs list is ys removed t.left t.rule in
    (subst (Writes (changes_from is ys list.count) cs) (sym t.cells) w.0, λ z r. ap (λ (l : List Ring). covered l z r) t.rings ∙ w.1 z r, t.stock ∙ ap (stock_with k k'.rings) w.2)
