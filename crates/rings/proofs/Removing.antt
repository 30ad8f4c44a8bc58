-- One ring taken, and a list of them: the refusals one after the other, and what is answered past them. Assumes nothing.
use Rattle.std.specs.Prelude.{Err, Ok, Result}
use Rattle.std.proofs.Common.{IsErrAnd}
use Rattle.std.proofs.lemmas.Result.{err_from_is_err_and}
use Prim.Native.Nat.{ℕ, ◌+◌, ◌/◌, ◌≤◌, ◌<◌}
use Rattle.refusals.specs.declared.Refused.{Refused}
use native.Mathlib.Omega.{arith}
use mathlib.Core.Path.{◌≡◌, refl, sym, ◌∙◌, ap, ap₂, subst}
use mathlib.Core.Bool.{Bool, true, false, ◌&&◌}
use mathlib.Core.List.{List, ◌++◌}
use lib.Dec.{leb, ltb}
use lib.ListN.{length}
use lib.Ieee.{Float}
use borrow.Author.Tests.{le-leb, lt-leb, leb-true, lt-ltb, le-ltb}
use Rattle.refusals.specs.declared.Refusal.{Refusal}
use Rattle.refusals.specs.declared.Refusal.TheVariants.{StoredRings, RingOutside, GenerationsSpent}
use Rattle.refusals.specs.Limits.{last_generation}
use Rattle.refusals.specs.Number.{reason_of, reason_at, reason_in, refused_of, refused_at, paper_of, placed_of}
use Rattle.refusals.specs.Paper.{Paper, Reason, answers, refuses, demand_at, onward, demand-true, demand-false, demand_at-true, demand_at-false}
use Rattle.floats.specs.Pick.{pick, pick_true, pick-false}
use Rattle.stock.specs.declared.TurnStockSpec.{TurnStockSpec}
use Rattle.stock.specs.declared.TurnStock.{TurnStock}
use Rattle.stock.specs.Spec.{clean_spec, cells_of}
use Rattle.stock.specs.Stock.{stock_with}
use Rattle.stock.proofs.Count.{no_answer}
use Rattle.rings.specs.declared.Ring.{Ring}
use Rattle.rings.specs.declared.Removed.{Removed}
use Rattle.rings.specs.declared.Took.{Took}
use Rattle.rings.specs.declared.RingCount.{RingCount}
use Rattle.rings.specs.Ring.{filled, clip}
use Rattle.rings.specs.Store.{bar_ring, ring_at, rings_of, room_for_rings, store_as, store_fits, count_fits, finite_ring}
use Rattle.rings.specs.Remove.{added, added_all, StoresAs, remove_all_in, remove_rings, RingStore, stored_next, remove_in, remove_ring, counts_of, rings_left_after, Takes, stock_after, removed_paper, removed_tests, Removes}
use Rattle.rings.specs.Tests.{ring_tests}
use Rattle.rings.specs.Counted.{counts_by, TakenTests, TakesFrom}
use Rattle.rings.proofs.Flat.{length-rings, stored_same}
use Rattle.rings.proofs.Adding.{stores-none, stores-refused, stores-rings, stores_as, accepted, refused, added-one}

-- ---- refusal 4's test
pub count-over : (e : Ring) (xs : List Float) (n room : ℕ) → room ≡ room_for_rings (length xs) → room < n → false ≡ count_fits e xs n
unfolding count_fits
count-over e xs n room r h = sym (ap (λ (b : Bool). b && store_fits e (rings_of n xs)) (lt-leb n (room_for_rings (length xs)) (omega arith)))

pub count-within : (e : Ring) (xs : List Float) (n room : ℕ) (t : Bool) → room ≡ room_for_rings (length xs) → n ≤ room → t ≡ store_fits e (rings_of n xs) → t ≡ count_fits e xs n
unfolding count_fits
count-within e xs n room t r h f = f ∙ sym (ap (λ (b : Bool). b && store_fits e (rings_of n xs)) (le-leb n (room_for_rings (length xs)) (omega arith)))

and-fst : (a b : Bool) → (a && b) ≡ true → a ≡ true
and-fst true b e = refl
and-fst false b e = e

-- a store that passes is within the room
pub fits-within : (e : Ring) (xs : List Float) (n : ℕ) → count_fits e xs n ≡ true → n ≤ room_for_rings (length xs)
unfolding count_fits
fits-within e xs n f = leb-true n (room_for_rings (length xs)) (and-fst (leb n (room_for_rings (length xs))) (store_fits e (rings_of n xs)) f)

-- ---- from a rule's answer to the promise
removes-none : (xs ys : List Float) (p : Paper RingStore) (r : Result RingCount Refused) (x : Reason) → placed_of r ≡ refuses x → p ≡ refuses x → ys ≡ xs → Takes xs p r ys
unfolding counts_of rings_left_after onward
removes-none xs ys p r x a e y = record { answer = a ∙ sym (ap counts_of e); store = y ∙ sym (ap (rings_left_after xs) e) }

removes-refused : (xs : List Float) (p : Paper RingStore) (r : Refused) (x : Refusal) → r ≡ refused_of x → p ≡ refuses (reason_of x) → Takes xs p (Err r) xs
removes-refused xs p r x h e = removes-none xs xs p (Err r) (reason_of x) (ap (λ (c : Refused). refuses (reason_in c)) h) e refl

removes-stored : (xs : List Float) (p : Paper RingStore) (l : List Ring) (n g : ℕ) (ys : List Float) → p ≡ answers (record { rings = l; generation = g }) → n ≡ length l → ys ≡ store_as xs l
    → Takes xs p (Ok (record { rings = n; generation = g })) ys
unfolding counts_of rings_left_after onward
removes-stored xs p l n g ys e f y = record { answer = ap (λ (m : ℕ). let c : RingCount = record { rings = m; generation = g } in answers c) f ∙ sym (ap counts_of e); store = y ∙ sym (ap (rings_left_after xs) e) }

-- ---- one ring
module _ (e : Ring) (xs : List Float) (n g : ℕ) (q : Ring) where
  clipped : Paper RingStore
  clipped = pick (filled (clip e q)) (stored_next (room_for_rings (length xs)) (rings_of n xs) g (clip e q)) (answers (record { rings = rings_of n xs; generation = g }))

  pub refuses-4 : (r : Refused) → r ≡ refused_of StoredRings → count_fits e xs n ≡ false → Takes xs (remove_in e xs n g q) (Err r) xs
  unfolding remove_in clipped
  refuses-4 r a f = removes-refused xs (remove_in e xs n g q) r StoredRings a (demand-false (count_fits e xs n) 4 (demand_at (finite_ring q) 10 0 clipped) f)

  module _ (f : count_fits e xs n ≡ true) where
    pub refuses-10 : (r : Refused) → r ≡ refused_at RingOutside 0 → finite_ring q ≡ false → Takes xs (remove_in e xs n g q) (Err r) xs
    unfolding remove_in clipped
    refuses-10 r a h =
        removes-none xs xs (remove_in e xs n g q) (Err r) (reason_at RingOutside 0) (ap (λ (c : Refused). refuses (reason_in c)) a)
        (demand-true (count_fits e xs n) 4 (demand_at (finite_ring q) 10 0 clipped) f ∙ demand_at-false (finite_ring q) 10 0 clipped h) refl

    module _ (h : finite_ring q ≡ true) where
      in-range : remove_in e xs n g q ≡ clipped
      unfolding remove_in clipped
      in-range = demand-true (count_fits e xs n) 4 (demand_at (finite_ring q) 10 0 clipped) f ∙ demand_at-true (finite_ring q) 10 0 clipped h

      -- empty after clipping: nothing changes
      pub keeps-all : filled (clip e q) ≡ false → Takes xs (remove_in e xs n g q) (Ok (record { rings = n; generation = g })) xs
      unfolding clipped
      keeps-all k =
          let b = fits-within e xs n f in
          removes-stored xs (remove_in e xs n g q) (rings_of n xs) n g xs
          (in-range ∙ pick-false (filled (clip e q)) (stored_next (room_for_rings (length xs)) (rings_of n xs) g (clip e q)) (answers (record { rings = rings_of n xs; generation = g })) k)
          (sym (length-rings n xs)) (sym (stored_same xs n (omega arith)))

      module _ (k : filled (clip e q) ≡ true) where
        not-empty : remove_in e xs n g q ≡ stored_next (room_for_rings (length xs)) (rings_of n xs) g (clip e q)
        unfolding clipped
        not-empty = in-range ∙ pick_true (filled (clip e q)) (stored_next (room_for_rings (length xs)) (rings_of n xs) g (clip e q)) (answers (record { rings = rings_of n xs; generation = g })) k

        pub refuses-12 : (r : Refused) → r ≡ refused_of GenerationsSpent → last_generation ≤ g → Takes xs (remove_in e xs n g q) (Err r) xs
        unfolding stored_next
        refuses-12 r a l = removes-refused xs (remove_in e xs n g q) r GenerationsSpent a (not-empty ∙ demand-false (ltb g last_generation) 12 (next) (le-ltb g last_generation l))
          where
            next : Paper RingStore
            next = onward (added (room_for_rings (length xs)) (rings_of n xs) (clip e q)) (λ l. answers (record { rings = l; generation = g + 1 }))

        module _ (l : g < last_generation) (c : Ring) (v : c ≡ clip e q) (room : ℕ) (w : room ≡ room_for_rings (length xs)) (r : Result ℕ Refused) (ys : List Float) (s : StoresAs xs (added room (rings_of n xs) c) r ys) where
          rises : remove_in e xs n g q ≡ onward (added room (rings_of n xs) c) (λ l. answers (record { rings = l; generation = g + 1 }))
          unfolding stored_next
          rises =
              not-empty ∙ demand-true (ltb g last_generation) 12 (onward (added (room_for_rings (length xs)) (rings_of n xs) (clip e q)) (λ l. answers (record { rings = l; generation = g + 1 }))) (lt-ltb g last_generation l)
              ∙ ap₂ (λ (m : ℕ) (p : Ring). onward (added m (rings_of n xs) p) (λ l. answers (record { rings = l; generation = g + 1 }))) (sym w) (sym v)

          pub refuses-11 : (x : Reason) (a : Result RingCount Refused) → placed_of a ≡ refuses x → placed_of r ≡ refuses x → Takes xs (remove_in e xs n g q) a ys
          unfolding onward
          refuses-11 x a t h =
              let y = refused xs (added room (rings_of n xs) c) r ys x s h in
              removes-none xs ys (remove_in e xs n g q) a x t (rises ∙ ap (λ (b : Paper (List Ring)). onward b (λ l. answers (record { rings = l; generation = g + 1 }))) y.0) y.1

          pub stores-ring : (m : ℕ) → r ≡ Ok m → Takes xs (remove_in e xs n g q) (Ok (record { rings = m; generation = g + 1 })) ys
          unfolding onward
          stores-ring m h =
              let y = accepted xs (added room (rings_of n xs) c) r ys m s h in
              removes-stored xs (remove_in e xs n g q) y.rings m (g + 1) ys (rises ∙ ap (λ (a : Paper (List Ring)). onward a (λ l. answers (record { rings = l; generation = g + 1 }))) y.rule) y.count y.store

-- ---- a list of rings
module _ (e : Ring) (xs : List Float) (n : ℕ) (news : List Float) where
  pub all-refuses-4 : (x : Refused) → x ≡ refused_of StoredRings → (room : ℕ) → room ≡ room_for_rings (length xs) → room < n → StoresAs xs (remove_all_in e xs n news) (Err x) xs
  unfolding remove_all_in
  all-refuses-4 x a room r h =
      stores-refused xs (remove_all_in e xs n news) x StoredRings a
      (demand-false (leb n (room_for_rings (length xs))) 4 (added_all e (room_for_rings (length xs)) (rings_of n xs) (rings_of (length news / 4) news)) (lt-leb n (room_for_rings (length xs)) (omega arith)))

  module _ (room : ℕ) (r : room ≡ room_for_rings (length xs)) (h : n ≤ room) where
    all_in : remove_all_in e xs n news ≡ added_all e room (rings_of n xs) (rings_of (length news / 4) news)
    unfolding remove_all_in
    all_in =
        demand-true (leb n (room_for_rings (length xs))) 4 (added_all e (room_for_rings (length xs)) (rings_of n xs) (rings_of (length news / 4) news)) (le-leb n (room_for_rings (length xs)) (omega arith))
        ∙ ap (λ (m : ℕ). added_all e m (rings_of n xs) (rings_of (length news / 4) news)) (sym r)

    pub all_none : (k : ℕ) → k ≡ length news / 4 → k ≡ 0 → StoresAs xs (remove_all_in e xs n news) (Ok n) xs
    unfolding added_all rings_of
    all_none k f z =
        stores-rings xs (remove_all_in e xs n news) (rings_of n xs) n xs (all_in ∙ ap (λ (m : ℕ). added_all e room (rings_of n xs) (rings_of m news)) (sym f ∙ z)) (sym (length-rings n xs))
        (sym (stored_same xs n (omega arith)))

    pub all_one : (k : ℕ) (c : Ring) {s : (Result ℕ Refused)} {ys : List Float} → k ≡ length news / 4 → k ≡ 1 → c ≡ clip e (ring_at news 0) → StoresAs xs (added room (rings_of n xs) c) s ys
        → StoresAs xs (remove_all_in e xs n news) s ys
    all_one k c f o v a =
        stores_as (added-one e room (rings_of n xs) news c v ∙ ap (λ (m : ℕ). added_all e room (rings_of n xs) (rings_of m news)) (sym o ∙ f) ∙ sym all_in) a

    pub all-refused : (x : Reason) (a : Result ℕ Refused) → placed_of a ≡ refuses x → added_all e room (rings_of n xs) (rings_of (length news / 4) news) ≡ refuses x → StoresAs xs (remove_all_in e xs n news) a xs
    all-refused x a t f = stores-none xs (remove_all_in e xs n news) a x t (all_in ∙ f)

    pub all-stored : (work : List Float) (m k : ℕ) (ys : List Float) → k ≡ length news / 4 → added_all e room (rings_of n xs) (rings_of k news) ≡ answers (rings_of m work)
        → ys ≡ store_as xs (rings_of 0 xs ++ rings_of m work) → StoresAs xs (remove_all_in e xs n news) (Ok m) ys
    unfolding rings_of
    all-stored work m k ys f a y =
        stores-rings xs (remove_all_in e xs n news) (rings_of m work) m ys (all_in ∙ ap (λ (j : ℕ). added_all e room (rings_of n xs) (rings_of j news)) (sym f) ∙ a) (sym (length-rings m work)) y

-- ---- the spec's own refusals
module _ (spec : TurnStockSpec) (xs : List Float) (n g : ℕ) (q : Ring) where
  pub refuses-spec : (r : Result ℕ Refusal) (x : Refusal) (a : Result RingCount Refused) → paper_of r ≡ cells_of spec → r ≡ Err x → placed_of a ≡ refuses (reason_of x) → Takes xs (remove_ring spec xs n g q) a xs
  unfolding remove_ring onward
  refuses-spec r x a e h t =
      removes-none xs xs (remove_ring spec xs n g q) a (reason_of x) t (ap (λ (p : Paper ℕ). onward p (λ _. remove_in (bar_ring (clean_spec spec)) xs n g q)) (sym e ∙ ap paper_of h)) refl

  pub past-spec : (r : Result ℕ Refusal) (m : ℕ) (e : Ring) (a : Result RingCount Refused) (ys : List Float) → paper_of r ≡ cells_of spec → r ≡ Ok m → e ≡ bar_ring (clean_spec spec)
      → Takes xs (remove_in e xs n g q) a ys → Takes xs (remove_ring spec xs n g q) a ys
  unfolding remove_ring onward
  past-spec r m e a ys f h v s =
      let p : remove_in e xs n g q ≡ remove_ring spec xs n g q =
      ap (λ (b : Ring). remove_in b xs n g q) v ∙ sym (ap (λ (p : Paper ℕ). onward p (λ _. remove_in (bar_ring (clean_spec spec)) xs n g q)) (sym f ∙ ap paper_of h)) in
      subst (λ (b : Paper RingStore). Takes xs b a ys) p s

-- a refusal of no place, handed on
pub took-refused : (r : Result Took Refused) (x : Refusal) → IsErrAnd r (λ c. c ≡ refused_of x) → (placed_of (counts_by r) ≡ refuses (reason_of x)) × ((m : ℕ) → TakenTests r m)
took-refused r x h =
    let c = err_from_is_err_and r h in
    (ap (λ (v : Result Took Refused). placed_of (counts_by v)) c.1 ∙ ap (λ (v : Refused). refuses (reason_in v)) c.2, λ m. subst (λ (v : Result Took Refused). TakenTests v m) (sym c.1) tt)

-- the tests, where the ring is taken
told : (t : Took) (p : Paper RingStore) (m : ℕ) → placed_of (counts_by (Ok t)) ≡ counts_of p → t.tests ≡ m → answers t.tests ≡ onward p (λ _. answers m)
unfolding counts_of onward
told t (answers s) m a e = ap answers e
told t (refuses x) m a e = absurd (no_answer x _ (sym a))

untold : (r : Refused) (p : Paper RingStore) (m : ℕ) → placed_of {A = RingCount} (Err r) ≡ counts_of p → refuses (reason_in r) ≡ onward p (λ _. answers m)
unfolding counts_of onward
untold r (answers s) m a = absurd (no_answer (reason_in r) _ a)
untold r (refuses x) m a = let h : reason_in r ≡ x = cc in ap refuses h

-- from counts to the stock that has them
module _ {k : TurnStock} {xs ys : List Float} {n g : ℕ} {q : Ring} (t : Result Took Refused) (s : TakesFrom k.spec xs n g q t ys) where
  pub removes-taken : (c : Took) (m : TurnStock) → t ≡ Ok c → m ≡ stock_with k c.rings c.generation → Removes k xs (remove_ring k.spec xs n g q) (ring_tests k.spec xs n q) (Ok (record { stock = m; tests = c.tests })) ys
  removes-taken c m e f =
      let a : placed_of (counts_by (Ok c)) ≡ counts_of (remove_ring k.spec xs n g q) = ap (λ (v : Result Took Refused). placed_of (counts_by v)) (sym e) ∙ s.takes.answer in
      record {
        answer = ap answers f ∙ ap (stock_after k) a;
        store = s.takes.store;
        tests = told c (remove_ring k.spec xs n g q) (ring_tests k.spec xs n q) a (subst (λ (v : Result Took Refused). TakenTests v (ring_tests k.spec xs n q)) e s.tests);
      }

  pub removes-on : (x : Refused) (r : Result Removed Refused) → t ≡ Err x → IsErrAnd r (λ c. c ≡ x) → Removes k xs (remove_ring k.spec xs n g q) (ring_tests k.spec xs n q) r ys
  removes-on x r e h =
      let c = err_from_is_err_and r h in
      let v : r ≡ Err x = c.1 ∙ ap Err c.2 in
      let a : placed_of {A = RingCount} (Err x) ≡ counts_of (remove_ring k.spec xs n g q) = ap (λ (v : Result Took Refused). placed_of (counts_by v)) (sym e) ∙ s.takes.answer in
      record {
        answer = ap removed_paper v ∙ ap (stock_after k) a;
        store = s.takes.store;
        tests = ap removed_tests v ∙ untold x (remove_ring k.spec xs n g q) (ring_tests k.spec xs n q) a;
      }

-- a list of rings, in a stock
pub all_of : (spec : TurnStockSpec) (e : Ring) (xs : List Float) (n : ℕ) (news : List Float) {r : (Result ℕ Refused)} {ys : List Float} → e ≡ bar_ring (clean_spec spec)
    → StoresAs xs (remove_all_in e xs n news) r ys → StoresAs xs (remove_rings spec xs n news) r ys
unfolding remove_rings
all_of spec e xs n news {r} {ys} v s = subst (λ (b : Ring). StoresAs xs (remove_all_in b xs n news) r ys) v s
