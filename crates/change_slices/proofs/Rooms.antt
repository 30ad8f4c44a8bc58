-- A proposal with room for a change a cell, narrowed to the room that is lent, is the proposal with that room. So flat lists with room for every cell serve any number of records. Assumes nothing.
use Rattle.std.specs.Prelude.{Err, Ok, Result}
use mathlib.Core.Path.{◌≡◌, refl, sym, ap, ap₂, ◌∙◌, subst}
use mathlib.Core.Bool.{Bool, true, false, not}
use mathlib.Core.List.{List}
use Prim.Native.Nat.{ℕ, ◌*◌, ◌≤◌}
use Rattle.refusals.specs.declared.Refusal.{Refusal}
use native.Mathlib.Nat.{le_trans}
use native.Mathlib.Omega.{arith}
use lib.Dec.{leb, ltb}
use lib.ListN.{length, length-append, length-map}
use borrow.Author.Tests.{le-leb, lt-leb, ltb-true, ltb-false}
use lib.Ieee.{Float}
use Rattle.refusals.specs.declared.Refusal.TheVariants.{ChangesOverRoom}
use Rattle.refusals.specs.Number.{reason_of, paper_of}
use Rattle.refusals.specs.Paper.{Paper, Reason, answers, refuses, only, demand, onward, demand-true, demand-false, onward-answers}
use Rattle.refusals.specs.Limits.{cell_limit}
use Rattle.refusals.specs.Lent.{over}
use Rattle.floats.specs.Pick.{pick, pick_true, pick-false}
use Rattle.stock.specs.declared.TurnStockSpec.{TurnStockSpec}
use Rattle.stock.specs.declared.TurnCell.{TurnCell}
use Rattle.stock.specs.declared.TurnChange.{TurnChange}
use Rattle.stock.specs.declared.Stamp.{Stamp}
use Rattle.stock.specs.Spec.{clean_spec}
use Rattle.stock.specs.Cell.{stock_of}
use Rattle.stock.proofs.Count.{stocked, checked, same_answer, no_answer}
use Rattle.reach.specs.Reach.{Act, act_cell}
use Rattle.changes.specs.declared.ChangeList.{ChangeList}
use Rattle.changes.specs.Change.{changes_to, indices_of, numbers_of, room_of, changes_from, settled, stamped, count_of, written_of, Proposed}
use Rattle.changes.proofs.Rising.{at_most}
use Rattle.changes.proofs.Placed.{length-numbers}
use Rattle.changes.proofs.ReadBack.{read_back}
use Rattle.nose.specs.Nose.{segments_good, nose_act}
use Rattle.polygon.specs.Polygon.{polygon_good, polygon_act}
use Rattle.cuts.specs.Cut.{clean_cut, cut_good, is_arc, cut_act}
use Rattle.cuts.specs.Preview.{proposed, preview_of, preview_cut}
use Rattle.cuts.specs.declared.Tool.{Tool}
use Rattle.cuts.specs.declared.Tool.TheVariants.{Single, Nose, Polygon}
use Rattle.cuts.specs.Tool.{preview_tool}
use Rattle.change_slices.specs.Read.{Reads}
use Rattle.change_slices.specs.Proposal.{Written, count_in, narrow_answer, narrowed, ListsRecords}
use Rattle.change_slices.proofs.Reading.{held_all}

-- ---- room for a change a cell is room for all
-- most is room enough for a rule: with any other room it is that one, narrowed
abbrev Enough : (ℕ → Paper (List TurnChange)) → ℕ → Type 0
Enough rule most = (room : ℕ) → rule room ≡ narrowed room (rule most)

-- a change a cell is
abbrev Rooms : (ℕ → Paper (List TurnChange)) → Type 0
Rooms rule = Enough rule cell_limit

-- so it is of a list that is no longer, and of a rule that asks more before it
rooms-settled : (l : List TurnChange) → length l ≤ cell_limit → Rooms (λ room. settled room l)
rooms-settled l h room = sym (ap (λ (p : Paper (List TurnChange)). onward p (settled room)) (demand-true (leb (length l) cell_limit) 6 (answers l) (le-leb (length l) cell_limit h)) ∙ onward-answers l (settled room))

rooms-demand : (t : Bool) (k : ℕ) (rule : ℕ → Paper (List TurnChange)) → Rooms rule → Rooms (λ room. demand t k (rule room))
unfolding demand onward
rooms-demand true k rule h room = h room
rooms-demand false k rule h room = refl

rooms-onward : (p : Paper ℕ) (rule : ℕ → ℕ → Paper (List TurnChange)) → ((n : ℕ) → p ≡ answers n → Rooms (rule n)) → Rooms (λ room. onward p (λ n. rule n room))
unfolding onward
rooms-onward (answers n) rule h room = h n refl room
rooms-onward (refuses r) rule h room = refl

module _ (spec : TurnStockSpec) (cs : List Float) where
  -- a stock has no more cells than that, and a list of changes at most one for each
  rooms-changes : (f : ℕ → TurnCell → TurnCell) (n : ℕ) → stock_of spec cs ≡ answers n → Rooms (λ room. settled room (changes_to f cs n))
  rooms-changes f n e = rooms-settled (changes_to f cs n) (le_trans (at_most f cs n) (checked spec n (stocked spec cs n e).count).few)

  rooms-of : (good : Bool) (a : Act) → Rooms (preview_of spec cs good a)
  unfolding preview_of
  rooms-of good a = rooms-onward (stock_of spec cs) (λ n room. demand good 5 (proposed a cs room n)) (λ n e. rooms-demand good 5 (λ room. proposed a cs room n) (rooms-changes (act_cell a) n e))

  -- of each kind
  all-rooms : (t : Tool) (ys : List Float) → Rooms (preview_tool spec cs t ys)
  unfolding preview_tool preview_cut
  all-rooms (Single cut) ys =
      let u = clean_cut cut in
      rooms-onward (stock_of spec cs) (λ n room. demand (not (is_arc u)) 13 (demand (cut_good u) 5 (proposed (cut_act (clean_spec spec) u) cs room n)))
      (λ n e. rooms-demand (not (is_arc u)) 13 (λ room. demand (cut_good u) 5 (proposed (cut_act (clean_spec spec) u) cs room n)) (rooms-demand (cut_good u) 5 (λ room. proposed (cut_act (clean_spec spec) u) cs room n) (rooms-changes (act_cell (cut_act (clean_spec spec) u)) n e)))
  all-rooms (Nose side rn) ys = rooms-of (segments_good rn ys) (nose_act (clean_spec spec) side rn ys)
  all-rooms (Polygon side excess) ys = rooms-of (polygon_good ys excess) (polygon_act (clean_spec spec) side excess ys)

  -- so flat lists of one index and eight numbers a cell are enough
  pub lists-enough-for : (t : Tool) (ys : List Float) (a b : ℕ) → a ≡ cell_limit → b ≡ 8 * cell_limit → Enough (preview_tool spec cs t ys) (room_of a b)
  lists-enough-for t ys a b ea eb room = all-rooms t ys room ∙ ap (λ (k : ℕ). narrowed room (preview_tool spec cs t ys k)) (sym (ap₂ room_of ea eb))

-- ---- the flat lists after a proposal that is narrowed
over-holds : {A : Type 0} (xs b : List A) → length xs ≤ length (over xs b)
unfolding over
over-holds xs b = rw (length-append) (omega arith)

-- what was written over their front is read from them
pub from-over : (l : List TurnChange) (k : ℕ) (is is' : List ℕ) (xs xs' : List Float) → k ≡ length l → is' ≡ over (indices_of l) is → xs' ≡ over (numbers_of l) xs → changes_from is' xs' k ≡ l
from-over l k is is' xs xs' ek ei ex = ap₂ (λ (p : List ℕ) (q : List Float). changes_from p q k) ei ex ∙ ap (changes_from (over (indices_of l) is) (over (numbers_of l) xs)) ek ∙ read_back l is xs

module _ (st : Stamp) (room : ℕ) (is is' : List ℕ) (xs xs' : List Float) where
  -- it answers with no more than room
  lists-enough : (l : List TurnChange) (list : ChangeList) → list ≡ record { count = length l; stamp = st } → is' ≡ over (indices_of l) is → xs' ≡ over (numbers_of l) xs → length l ≤ room → ListsRecords st room (answers l) (Ok list) is' xs'
  lists-enough l list e ei ex h =
      let ek : list.count ≡ length l = ap (λ (x : ChangeList). x.count) e in
      let a = over-holds (indices_of l) is in
      let b = over-holds (numbers_of l) xs in
      let c = length-map l (λ (x : TurnChange). x.index) in
      let d = length-numbers l in
      let li : length is' ≡ length (over (indices_of l) is) = ap length ei in
      let lx : length xs' ≡ length (over (numbers_of l) xs) = ap length ex in
      record {
        answer = ap answers e;
        changes = from-over l list.count is is' xs xs' ek ei ex;
        held = omega arith;
        few = omega arith;
      }

  -- it refuses
  none : (r : Reason) (c : Result ChangeList Refusal) → paper_of c ≡ refuses r → count_in c ≡ 0 → ListsRecords st room (refuses r) c is' xs'
  unfolding changes_from
  none r c e z = record { answer = e; changes = ap (changes_from is' xs') z; held = omega arith; few = omega arith }

  narrow-lists : (p : Paper (List TurnChange)) (a : Result ChangeList Refusal) → Proposed st p a is is' xs xs' → ListsRecords st room (narrowed room p) (narrow_answer room a) is' xs'
  unfolding onward narrow_answer
  narrow-lists (answers l) (Ok list) q =
      let e : list ≡ record { count = length l; stamp = st } = same_answer q.answer in
      let ek : list.count ≡ length l = ap (λ (x : ChangeList). x.count) e in
      go (ltb room list.count) refl e ek
    where
      go : (t : Bool) → ltb room list.count ≡ t → list ≡ record { count = length l; stamp = st } → list.count ≡ length l → ListsRecords st room (settled room l) (pick t (Err ChangesOverRoom) (Ok list)) is' xs'
      go true t e ek =
          let h = ltb-true room list.count t in
          let f : settled room l ≡ refuses (only 6) = demand-false (leb (length l) room) 6 (answers l) (lt-leb (length l) room (omega arith)) in
          rw (f, pick_true true (Err ChangesOverRoom) (Ok list) refl) (none (only 6) (Err ChangesOverRoom) refl refl)
      go false t e ek =
          let h = ltb-false room list.count t in
          let f : settled room l ≡ answers l = demand-true (leb (length l) room) 6 (answers l) (le-leb (length l) room (omega arith)) in
          rw (f, pick-false false (Err ChangesOverRoom) (Ok list) refl) (lists-enough l list e q.indices q.numbers (omega arith))
  narrow-lists (answers l) (Err c) q = absurd (no_answer (reason_of c) _ q.answer)
  narrow-lists (refuses r) (Ok list) q = absurd (no_answer r list (sym q.answer))
  narrow-lists (refuses r) (Err c) q = none r (Err c) q.answer refl

  pub narrows : (p : Paper (List TurnChange)) (a r : Result ChangeList Refusal) → Proposed st p a is is' xs xs' → r ≡ narrow_answer room a → ListsRecords st room (narrowed room p) r is' xs'
  narrows p a r q e = subst (λ (x : Result ChangeList Refusal). ListsRecords st room (narrowed room p) x is' xs') (sym e) (narrow-lists p a q)

-- ---- the records that are read from them
pub records-hold : (st : Stamp) (p q : Paper (List TurnChange)) (r : Result ChangeList Refusal) (is : List ℕ) (xs : List Float) (k : ℕ) (l l' : List TurnChange) → p ≡ q → ListsRecords st (length l) q r is xs → Reads is xs (count_in r) k l l' → Written st p r l l'
records-hold st p q r is xs k l l' e w d =
    let h : k ≡ count_in r = d.count ∙ held_all (length is) (length xs) (count_in r) (length l) w.held w.few in
    record {
      answer = w.answer ∙ ap (λ (x : Paper (List TurnChange)). stamped st (count_of x)) (sym e);
      records = d.records ∙ ap (λ (m : ℕ). over (changes_from is xs m) l) h ∙ ap (λ (x : List TurnChange). over x l) w.changes ∙ ap (λ (x : Paper (List TurnChange)). over (written_of x) l) (sym e);
    }
