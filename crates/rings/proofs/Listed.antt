-- The tests of a list of rings, one after the other: what is written at the front of a lent list, and that they are the same of the store after the list as of the store before it. Assumes nothing.
use Rattle.std.specs.Prelude.{Ok, Result}
use Rattle.refusals.specs.declared.Refusal.{Refusal}
use Prim.Native.Nat.{ℕ, zero, suc, ◌+◌, ◌/◌, ◌≤◌, ◌<◌, min}
use Rattle.refusals.specs.Number.{placed_of}
use native.Mathlib.Nat.{eq-or-lt_of_le}
use native.Mathlib.Omega.{arith}
use mathlib.Core.Path.{◌≡◌, refl, sym, ◌∙◌, ap, ap₂, subst}
use mathlib.Core.Logic.{inl, inr}
use mathlib.Core.Bool.{Bool, true, false}
use mathlib.Core.List.{List, [], ◌∷◌, ◌++◌, append-nil}
use lib.Dec.{leb}
use lib.ListN.{length, take, set, length-take, length-append}
use lib.Seq.{take_all, take-length, take-append-le, take-append_seam, take-take}
use lib.Ieee.{Float}
use borrow.Author.Tests.{leb-true, le-leb, lt-leb}
use Rattle.refusals.specs.Paper.{Paper, Reason, answers, refuses, onward}
use Rattle.refusals.specs.Lent.{over}
use Rattle.refusals.proofs.Written.{over_none, over-more, length_over}
use Rattle.floats.specs.Pick.{pick, pick_true, pick-false}
use Rattle.stock.specs.declared.TurnStockSpec.{TurnStockSpec}
use Rattle.stock.specs.Spec.{clean_spec}
use Rattle.stock.proofs.Count.{no_answer, same_answer, demanded}
use Rattle.rings.specs.declared.Ring.{Ring}
use Rattle.rings.specs.declared.Added.{Added}
use Rattle.rings.specs.Ring.{kept, clip, left}
use Rattle.rings.specs.Store.{bar_ring, ring_at, rings_of, room_for_rings, store_as}
use Rattle.rings.specs.Remove.{added as added_to, added_all, remove_all_in, remove_rings}
use Rattle.rings.specs.Tests.{tests_of, tests_for, while_stored, tests_list, tests_over, list_tests_in, list_tests}
use Rattle.rings.specs.Counted.{stored_by, Adds}
use Rattle.rings.proofs.Flat.{rings-next, length-rings, rings-stored, length-stored}
use Rattle.rings.proofs.Adding.{accepted, refused, added-room, refused-more, Adding, adding-step, adding-refused}
use Rattle.rings.proofs.Tested.{for-added}
use Rattle.rings.proofs.Taken.{all_room}

-- ---- lists that go on at their end: the front of a later one is the earlier
module _ {A : Type 0} (F W : ℕ → List A) (law : (c : ℕ) → F (suc c) ≡ F c ++ W c) where
  front : (i c : ℕ) → i ≤ c → take (length (F i)) (F c) ≡ F i
  front i c h = go c h
    where
      more : (c : ℕ) → take (length (F i)) (F c) ≡ F i → take (length (F i)) (F (suc c)) ≡ F i
      more c e =
          let few : length (F i) ≤ length (F c) = (let r = ap length e in let s = length-take (length (F i)) (F c) in omega arith) in
          ap (take (length (F i))) (law c) ∙ take-append-le (length (F i)) (F c) (W c) few ∙ e

      go : (c : ℕ) → i ≤ c → take (length (F i)) (F c) ≡ F i
      go zero h = let z : i ≡ 0 = omega arith in subst (λ (n : ℕ). take (length (F i)) (F n) ≡ F i) z (take-length (F i))
      go (suc c) h =
          elim (eq-or-lt_of_le h) [
            | inl p ↦ subst (λ (n : ℕ). take (length (F i)) (F n) ≡ F i) p (take-length (F i))
            | inr q ↦ more c (go c (omega arith))
          ]

-- ---- the tests of a list
list-append : (e : Ring) (room : ℕ) (ks s t : List Ring) → tests_list e room ks (s ++ t) ≡ tests_list e room ks s ++ while_stored (added_all e room ks s) (λ l. tests_list e room l t)
unfolding tests_list added_all onward
list-append e room ks [] t = refl
list-append e room ks (q ∷ s) t = go (added_to room ks (clip e q)) (λ l. list-append e room l s t)
  where
    go : (p : Paper (List Ring)) → ((l : List Ring) → tests_list e room l (s ++ t) ≡ tests_list e room l s ++ while_stored (added_all e room l s) (λ m. tests_list e room m t))
        → while_stored p (λ l. tests_for e ks q ∷ tests_list e room l (s ++ t)) ≡ while_stored p (λ l. tests_for e ks q ∷ tests_list e room l s) ++ while_stored (onward p (λ l. added_all e room l s)) (λ m. tests_list e room m t)
    go (answers l) h = ap (λ (ts : List ℕ). tests_for e ks q ∷ ts) (h l)
    go (refuses n) h = refl

-- as many as rings are stored
pub list_length : (e : Ring) (room : ℕ) (ks qs l : List Ring) → added_all e room ks qs ≡ answers l → length (tests_list e room ks qs) ≡ length qs
unfolding tests_list added_all onward
list_length e room ks [] l a = refl
list_length e room ks (q ∷ qs) l a = go (added_to room ks (clip e q)) a (λ m. list_length e room m qs l)
  where
    go : (p : Paper (List Ring)) → onward p (λ m. added_all e room m qs) ≡ answers l → ((m : List Ring) → added_all e room m qs ≡ answers l → length (tests_list e room m qs) ≡ length qs)
        → length (while_stored p (λ m. tests_for e ks q ∷ tests_list e room m qs)) ≡ suc (length qs)
    go (answers m) b k = ap suc (k m b)
    go (refuses x) b k = absurd (no_answer x l b)

-- the first i of the new rings are added in a store of its own, and their tests are written at the front of a lent list
pub record Telling (e : Ring) (room : ℕ) (ks : List Ring) (news : List Float) (i : ℕ) (work : List Float) (n : ℕ) (old new : List ℕ) : Type 0 where
  pub adding : Adding e room ks news i work n
  pub told : new ≡ over (tests_list e room ks (rings_of i news)) old

module _ (e : Ring) (room : ℕ) (ks : List Ring) (news : List Float) where
  -- those of the first i rings
  abbrev tests : ℕ → List ℕ
  tests i = tests_list e room ks (rings_of i news)

  tests-on : (i : ℕ) → tests (suc i) ≡ tests i ++ while_stored (added_all e room ks (rings_of i news)) (λ l. tests_list e room l (ring_at news i ∷ []))
  unfolding rings_of
  tests-on i = list-append e room ks (rings_of i news) (ring_at news i ∷ [])

  -- one ring more
  tests-more : (i : ℕ) (l : List Ring) → added_all e room ks (rings_of i news) ≡ answers l → tests (i + 1) ≡ tests i ++ while_stored (added_to room l (clip e (ring_at news i))) (λ _. tests_for e l (ring_at news i) ∷ [])
  unfolding tests_list
  tests-more i l f =
      ap (tests_list e room ks) (rings-next news i) ∙ list-append e room ks (rings_of i news) (ring_at news i ∷ [])
      ∙ ap (λ (p : Paper (List Ring)). tests_list e room ks (rings_of i news) ++ while_stored p (λ m. tests_list e room m (ring_at news i ∷ []))) f

  -- once a ring is refused there are no more
  tests-ended : (x : Reason) (i c : ℕ) → i ≤ c → added_all e room ks (rings_of i news) ≡ refuses x → tests c ≡ tests i
  tests-ended x i c h f = go c h
    where
      go : (c : ℕ) → i ≤ c → tests c ≡ tests i
      go zero h = let z : i ≡ 0 = omega arith in sym (ap tests z)
      go (suc c) h =
          elim (eq-or-lt_of_le h) [
            | inl p ↦ sym (ap tests p)
            | inr q ↦ tests-on c ∙ ap (λ (p : Paper (List Ring)). tests c ++ while_stored p (λ l. tests_list e room l (ring_at news c ∷ []))) (refused-more e room ks news x i c (omega arith) f) ∙ append-nil (tests c) ∙ go c (omega arith)
          ]

  told-count : (i : ℕ) (work : List Float) (n : ℕ) → Adding e room ks news i work n → length (tests i) ≡ i
  told-count i work n g = list_length e room ks (rings_of i news) (rings_of n work) g.rule ∙ length-rings i news

  pub telling-start : (work : List Float) (n : ℕ) (old : List ℕ) → Adding e room ks news 0 work n → Telling e room ks news 0 work n old old
  unfolding rings_of tests_list
  telling-start work n old g = record { adding = g; told = sym (over_none old) }

  module _ (i : ℕ) (work : List Float) (n : ℕ) (old new : List ℕ) (g : Telling e room ks news i work n old new) (few : i ≤ length old) where
    pub telling-length : length new ≡ length old
    telling-length = ap length g.told ∙ length_over (tests i) old (let m = told-count i work n g.adding in omega arith)

    -- all that are asked for are written
    pub telling-end : i ≡ min (length news / 4) (length old) → new ≡ list_tests_in e room ks news old
    unfolding tests_over
    telling-end h = g.told ∙ ap (λ (ts : List ℕ). over ts old) (sym whole)
      where
        m : length (tests i) ≡ i
        m = told-count i work n g.adding

        whole : take (length old) (tests (length news / 4)) ≡ tests i
        whole =
            elim (eq-or-lt_of_le few) [
              | inl p ↦ ap (λ (k : ℕ). take k (tests (length news / 4))) (sym (m ∙ p)) ∙ front tests (λ c. while_stored (added_all e room ks (rings_of c news)) (λ l. tests_list e room l (ring_at news c ∷ []))) tests-on i (length news / 4) (omega arith)
              | inr q ↦ let k : length news / 4 ≡ i = omega arith in ap (λ (j : ℕ). take (length old) (tests j)) k ∙ take_all (length old) (tests i) (omega (arith, m))
            ]

    module _ (c : Ring) (f : c ≡ clip e (ring_at news i)) (work' : List Float) (r : Result Added Refusal) (a : Adds work (added_to room (rings_of n work) c) (tests_of (kept c) (rings_of n work)) r work') where
      next : added_to room (rings_of n work) (clip e (ring_at news i)) ≡ added_to room (rings_of n work) c
      next = ap (added_to room (rings_of n work)) (sym f)

      -- the next ring is stored, and its tests are written
      pub telling-step : (t : Added) → r ≡ Ok t → length work' ≡ length work → i < length old → Telling e room ks news (i + 1) work' t.rings old (set new i t.tests)
      telling-step t h l k =
          let s = adding-step e room ks news i work n g.adding c f work' (stored_by r) a.stores t.rings (ap stored_by h) l in
          let y = accepted work (added_to room (rings_of n work) c) (stored_by r) work' t.rings a.stores (ap stored_by h) in
          let u : t.tests ≡ tests_for e (rings_of n work) (ring_at news i) = for-added e (ring_at news i) c (rings_of n work) r t f h a.tests in
          let w : tests (i + 1) ≡ tests i ++ (t.tests ∷ []) =
          tests-more i (rings_of n work) g.adding.rule ∙ ap (λ (p : Paper (List Ring)). tests i ++ while_stored p (λ _. tests_for e (rings_of n work) (ring_at news i) ∷ [])) (next ∙ y.rule) ∙ ap (λ (v : ℕ). tests i ++ (v ∷ [])) (sym u) in
          let o = told-count i work n g.adding in
          record {
            adding = s;
            told = ap (λ (b : List ℕ). set b i t.tests) g.told ∙ ap (λ (j : ℕ). set (over (tests i) old) j t.tests) (sym o) ∙ over-more (tests i) (t.tests ∷ []) old (omega arith) ∙ ap (λ (ts : List ℕ). over ts old) (sym w);
          }

      -- it is refused, and nothing more is written
      pub telling-refused : (x : Reason) → placed_of (stored_by r) ≡ refuses x → i < length news / 4 → new ≡ list_tests_in e room ks news old
      unfolding tests_over
      telling-refused x h k =
          let y = (refused work (added_to room (rings_of n work) c) (stored_by r) work' x a.stores h).0 in
          let w : tests (i + 1) ≡ tests i =
          tests-more i (rings_of n work) g.adding.rule ∙ ap (λ (p : Paper (List Ring)). tests i ++ while_stored p (λ _. tests_for e (rings_of n work) (ring_at news i) ∷ [])) (next ∙ y) ∙ append-nil (tests i) in
          let all : tests (length news / 4) ≡ tests i =
          tests-ended x (i + 1) (length news / 4) (omega arith) (adding-refused e room ks news i work n g.adding c f work' (stored_by r) a.stores x (i + 1) h (omega arith)) ∙ w in
          let m = told-count i work n g.adding in
          g.told ∙ ap (λ (ts : List ℕ). over ts old) (sym (ap (take (length old)) all ∙ take_all (length old) (tests i) (omega arith)))

-- ---- of a stock
module _ (spec : TurnStockSpec) (xs : List Float) (n : ℕ) (news : List Float) where
  -- an empty list is left, whatever is asked
  pub tells_none : (old : List ℕ) → length old ≡ 0 → old ≡ list_tests spec xs n news old
  unfolding list_tests tests_over over pick
  tells_none [] h = go (leb n (room_for_rings (length xs)))
    where
      go : (t : Bool) → ◌≡◌ {A = List ℕ} [] (pick t (list_tests_in (bar_ring (clean_spec spec)) (room_for_rings (length xs)) (rings_of n xs) news []) [])
      go true = refl
      go false = refl
  tells_none (x ∷ old) h = absurd (omega arith)

  -- a count over the room
  pub tells-over : (old : List ℕ) (room : ℕ) → room ≡ room_for_rings (length xs) → room < n → old ≡ list_tests spec xs n news old
  unfolding list_tests
  tells-over old room r h = sym (pick-false (leb n (room_for_rings (length xs))) (list_tests_in (bar_ring (clean_spec spec)) (room_for_rings (length xs)) (rings_of n xs) news old) old (lt-leb n (room_for_rings (length xs)) (omega arith)))

  pub tells-in : (old new : List ℕ) (room : ℕ) (e : Ring) → room ≡ room_for_rings (length xs) → e ≡ bar_ring (clean_spec spec) → n ≤ room → new ≡ list_tests_in e room (rings_of n xs) news old → new ≡ list_tests spec xs n news old
  unfolding list_tests
  tells-in old new room e r v h s =
      s ∙ ap₂ (λ (b : Ring) (m : ℕ). list_tests_in b m (rings_of n xs) news old) v r
      ∙ sym (pick_true (leb n (room_for_rings (length xs))) (list_tests_in (bar_ring (clean_spec spec)) (room_for_rings (length xs)) (rings_of n xs) news old) old (le-leb n (room_for_rings (length xs)) (omega arith)))

-- ---- the store after an accepted list has the rings of before at its front
rings-front : (xs : List Float) (n m : ℕ) → n ≤ m → take n (rings_of m xs) ≡ rings_of n xs
unfolding rings_of
rings-front xs n m h = ap (λ (k : ℕ). take k (rings_of m xs)) (sym (length-rings n xs)) ∙ front (λ j. rings_of j xs) (λ j. ring_at xs j ∷ []) (λ j. refl) n m h

store-front : (e : Ring) (room : ℕ) (ks qs l : List Ring) → added_all e room ks qs ≡ answers l → take (length ks) l ≡ ks
unfolding added_all onward
store-front e room ks [] l a = let b : ks ≡ l = same_answer a in subst (λ (m : List Ring). take (length ks) m ≡ ks) b (take-length ks)
store-front e room ks (q ∷ qs) l a = go (added_to room ks (clip e q)) refl a (λ m. store-front e room m qs l)
  where
    go : (p : Paper (List Ring)) → added_to room ks (clip e q) ≡ p → onward p (λ m. added_all e room m qs) ≡ answers l → ((m : List Ring) → added_all e room m qs ≡ answers l → take (length m) l ≡ m) → take (length ks) l ≡ ks
    go (answers m) b c k =
        let w = (added-room room ks (clip e q) m b).0 in
        let few : length ks ≤ length m = (let x = ap length w in let y = length-append ks (left ks (clip e q)) in omega arith) in
        sym (take-take (length ks) (length m) l few) ∙ ap (take (length ks)) (k m c ∙ w) ∙ take-append_seam ks (left ks (clip e q))
    go (refuses n) b c k = absurd (no_answer n l c)

-- so a list's tests are told by the store after it as by the store before it
pub tests-after : (spec : TurnStockSpec) (xs : List Float) (n : ℕ) (news : List Float) (l : List Ring) (old : List ℕ) → remove_rings spec xs n news ≡ answers l → list_tests spec (store_as xs l) n news old ≡ list_tests spec xs n news old
unfolding list_tests remove_rings remove_all_in
tests-after spec xs n news l old h =
    let e = bar_ring (clean_spec spec) in
    let ks = rings_of n xs in
    let qs = rings_of (length news / 4) news in
    let d = demanded (leb n (room_for_rings (length xs))) 4 (added_all e (room_for_rings (length xs)) ks qs) l h in
    let w = leb-true n (room_for_rings (length xs)) d.0 in
    let k = length-rings n xs in
    let r : length l ≤ room_for_rings (length xs) = all_room e (room_for_rings (length xs)) ks qs l (omega arith) d.1 in
    let m : length (store_as xs l) ≡ length xs = length-stored xs l (omega arith) in
    let s : take n l ≡ ks = ap (λ (j : ℕ). take j l) (sym k) ∙ store-front e (room_for_rings (length xs)) ks qs l d.1 in
    let few : n ≤ length l = (let x = ap length s in let y = length-take n l in omega arith) in
    let f : rings_of n (store_as xs l) ≡ ks = sym (rings-front (store_as xs l) n (length l) few) ∙ ap (take n) (rings-stored xs l) ∙ s in
    ap₂ (λ (j : ℕ) (rs : List Ring). pick (leb n (room_for_rings j)) (list_tests_in e (room_for_rings j) rs news old) old) m f
