-- A clipped ring added to the store, and a list of rings one after the other: what the code answers and writes is what the rules say. Assumes nothing.
use Rattle.std.specs.Prelude.{Err, Ok, Result}
use Rattle.std.proofs.Common.{IsErrAnd}
use Rattle.std.proofs.lemmas.Result.{err_from_is_err_and}
use Prim.Native.Nat.{ℕ, zero, suc, ◌+◌, ◌*◌, ◌≤◌, ◌<◌}
use Rattle.refusals.specs.declared.Refused.{Refused}
use native.Mathlib.Nat.{eq-or-lt_of_le}
use native.Mathlib.Omega.{arith}
use mathlib.Core.Path.{◌≡◌, refl, sym, ◌∙◌, ap, ap₂, subst}
use mathlib.Core.Logic.{inl, inr}
use mathlib.Core.Bool.{Bool, true, false, ◌&&◌, true≢false}
use mathlib.Core.List.{List, [], ◌∷◌, ◌++◌, append-nil}
use lib.Dec.{leb}
use lib.ListN.{length, length-append}
use lib.Ieee.{Float}
use borrow.Author.Tests.{le-leb, lt-leb, leb-true}
use Rattle.refusals.specs.declared.Refusal.{Refusal}
use Rattle.refusals.specs.declared.Refusal.TheVariants.{RingsOverRoom}
use Rattle.refusals.specs.Number.{reason_of, reason_in, refused_of, placed_of}
use Rattle.refusals.specs.Paper.{Paper, Reason, answers, refuses, only, demand, onward, demand-true, demand-false}
use Rattle.floats.specs.Pick.{pick, pick_true, pick-false}
use Rattle.rings.specs.declared.Ring.{Ring}
use Rattle.rings.specs.declared.Added.{Added}
use Rattle.rings.specs.Ring.{filled, apart, kept, subtract, subtract_all, in_hand, clip, left}
use Rattle.rings.specs.Store.{ring_at, rings_of, store_as, write, apart_all}
use Rattle.rings.specs.Hand.{Subtracted}
use Rattle.rings.specs.Remove.{room_for, added, added_all, count_of, store_after, StoresAs, leaves, LeavesOf}
use Rattle.rings.specs.Counted.{stored_by, Adds}
use Rattle.rings.proofs.Flat.{rings-next, length-rings, rings-stored, stored_same, length-stored, write-behind, rings-copied}
use Rattle.rings.proofs.Prefix.{apart-turns}
use Rattle.rings.proofs.InHand.{kept-few, subtract-apart, in-hand-few, in-hand-more}

-- ---- from a rule's answer to the promise, and back
pub stores-none : (xs : List Float) (p : Paper (List Ring)) (r : Result ℕ Refused) (x : Reason) → placed_of r ≡ refuses x → p ≡ refuses x → StoresAs xs p r xs
unfolding count_of onward
stores-none xs p r x a e = record { answer = a ∙ sym (ap count_of e); store = sym (ap (store_after xs) e) }

pub stores-refused : (xs : List Float) (p : Paper (List Ring)) (r : Refused) (x : Refusal) → r ≡ refused_of x → p ≡ refuses (reason_of x) → StoresAs xs p (Err r) xs
stores-refused xs p r x h e = stores-none xs p (Err r) (reason_of x) (ap (λ (c : Refused). refuses (reason_in c)) h) e

pub stores-rings : (xs : List Float) (p : Paper (List Ring)) (l : List Ring) (n : ℕ) (ys : List Float) → p ≡ answers l → n ≡ length l → ys ≡ store_as xs l → StoresAs xs p (Ok n) ys
unfolding count_of onward
stores-rings xs p l n ys e f g = record { answer = ap answers f ∙ sym (ap count_of e); store = g ∙ sym (ap (store_after xs) e) }

-- what an accepted answer says of the rule, the count and the numbers
pub record Accepted (xs : List Float) (p : Paper (List Ring)) (n : ℕ) (ys : List Float) : Type 0 where
  pub rings : List Ring
  pub rule : p ≡ answers rings
  pub count : n ≡ length rings
  pub store : ys ≡ store_as xs rings

pub accepted : (xs : List Float) (p : Paper (List Ring)) (r : Result ℕ Refused) (ys : List Float) (n : ℕ) → StoresAs xs p r ys → r ≡ Ok n → Accepted xs p n ys
unfolding count_of onward
accepted xs p r ys n s e = go p refl
  where
    go : (v : Paper (List Ring)) → p ≡ v → Accepted xs p n ys
    go (answers l) f =
        let a : placed_of r ≡ answers (length l) = s.answer ∙ ap count_of f in
        let b : placed_of r ≡ answers n = ap placed_of e in
        let c : n ≡ length l = cc in
        record { rings = l; rule = f; count = c; store = s.store ∙ ap (store_after xs) f }
    go (refuses k) f =
        let a : placed_of r ≡ refuses k = s.answer ∙ ap count_of f in
        let b : placed_of r ≡ answers n = ap placed_of e in
        let z : ◌≡◌ {A = ℕ} 0 1 = cc in
        absurd (omega arith)

pub refused : (xs : List Float) (p : Paper (List Ring)) (r : Result ℕ Refused) (ys : List Float) (x : Reason) → StoresAs xs p r ys → placed_of r ≡ refuses x → (p ≡ refuses x) × (ys ≡ xs)
unfolding count_of onward
refused xs p r ys x s b = go p refl
  where
    go : (v : Paper (List Ring)) → p ≡ v → (p ≡ refuses x) × (ys ≡ xs)
    go (answers l) f =
        let a : placed_of r ≡ answers (length l) = s.answer ∙ ap count_of f in
        let z : ◌≡◌ {A = ℕ} 0 1 = cc in
        absurd (omega arith)
    go (refuses k) f =
        let a : placed_of r ≡ refuses k = s.answer ∙ ap count_of f in
        let q : k ≡ x = cc in
        (f ∙ ap refuses q, s.store ∙ ap (store_after xs) f)

-- ---- one clipped ring
pub added-yes : (room : ℕ) (ks : List Ring) (c : Ring) → room_for room ks c ≡ true → added room ks c ≡ answers (ks ++ left ks c)
unfolding added
added-yes room ks c e = demand-true (room_for room ks c) 11 (answers (ks ++ left ks c)) e

added-no : (room : ℕ) (ks : List Ring) (c : Ring) → room_for room ks c ≡ false → added room ks c ≡ refuses (only 11)
unfolding added
added-no room ks c e = demand-false (room_for room ks c) 11 (answers (ks ++ left ks c)) e

and_yes : (a b : Bool) → a ≡ true → b ≡ true → (a && b) ≡ true
and_yes a b e f = ap₂ (λ (s t : Bool). s && t) e f

pub and-snd : (a b : Bool) → (a && b) ≡ true → b ≡ true
and-snd true b e = e
and-snd false b e = absurd (true≢false (sym e))

-- an accepted store is within the room
pub added-room : (room : ℕ) (ks : List Ring) (c : Ring) (l : List Ring) → added room ks c ≡ answers l → (l ≡ ks ++ left ks c) × (length l ≤ room)
unfolding room_for
added-room room ks c l e = go (room_for room ks c) refl
  where
    go : (t : Bool) → room_for room ks c ≡ t → (l ≡ ks ++ left ks c) × (length l ≤ room)
    go true f =
        let a = added-yes room ks c f in
        let b : l ≡ ks ++ left ks c = cc in
        let h = leb-true (length ks + length (left ks c)) room (and-snd (in_hand 256 (kept c) ks) (leb (length ks + length (left ks c)) room) f) in
        let m = length-append ks (left ks c) in
        let n = ap length b in
        (b, omega arith)
    go false f =
        let a = added-no room ks c f in
        let z : ◌≡◌ {A = ℕ} 0 1 = cc in
        absurd (omega arith)

pub kept-yes : (c : Ring) → filled c ≡ true → kept c ≡ c ∷ []
unfolding kept
kept-yes c e = pick_true (filled c) (c ∷ []) [] e

pub kept-no : (c : Ring) → filled c ≡ false → kept c ≡ []
unfolding kept
kept-no c e = pick-false (filled c) (c ∷ []) [] e

-- no piece, nothing left
pub nothing_left : (ks : List Ring) → (subtract_all [] ks ≡ []) × (in_hand 256 [] ks ≡ true)
unfolding subtract_all in_hand subtract
nothing_left [] = (refl, refl)
nothing_left (k ∷ ks) = nothing_left ks

-- a ring that overlaps none of the stored is left whole
all_left : (ks : List Ring) (c : Ring) → apart_all ks c ≡ true → (subtract_all (c ∷ []) ks ≡ c ∷ []) × (in_hand 256 (c ∷ []) ks ≡ true)
unfolding subtract_all in_hand apart_all
all_left [] c e = (refl, refl)
all_left (k ∷ ks) c e = go (apart k c) refl e (all_left ks c)
  where
    Goal : Type 0
    Goal = (subtract_all (subtract (c ∷ []) k) ks ≡ c ∷ []) × ((leb (length (subtract (c ∷ []) k)) 256 && in_hand 256 (subtract (c ∷ []) k) ks) ≡ true)

    go : (t : Bool) → apart k c ≡ t → (t && apart_all ks c) ≡ true → (apart_all ks c ≡ true → (subtract_all (c ∷ []) ks ≡ c ∷ []) × (in_hand 256 (c ∷ []) ks ≡ true)) → Goal
    go true f g h =
        let s : subtract (c ∷ []) k ≡ c ∷ [] = subtract-apart (c ∷ []) k (ap (λ (b : Bool). b && true) (apart-turns c k ∙ f)) in
        let r = h g in
        (ap (λ (l : List Ring). subtract_all l ks) s ∙ r.0, ap (λ (l : List Ring). leb (length l) 256 && in_hand 256 l ks) s ∙ r.1)
    go false f g h = absurd (true≢false (sym g))

-- a ring that is empty changes nothing
pub added_none : (room : ℕ) (ks : List Ring) (c : Ring) → length ks ≤ room → filled c ≡ false → added room ks c ≡ answers ks
unfolding room_for left
added_none room ks c h e =
    let k = kept-no c e in
    let n = nothing_left ks in
    let s : left ks c ≡ [] = ap (λ (l : List Ring). subtract_all l ks) k ∙ n.0 in
    let few = ap length s in
    let f : room_for room ks c ≡ true =
    and_yes (in_hand 256 (kept c) ks) (leb (length ks + length (left ks c)) room) (ap (λ (l : List Ring). in_hand 256 l ks) k ∙ n.1) (le-leb (length ks + length (left ks c)) room (omega arith)) in
    added-yes room ks c f ∙ ap answers (ap (λ (l : List Ring). ks ++ l) s ∙ append-nil ks)

module _ (xs : List Float) (room count : ℕ) (c : Ring) (h : count ≤ room) (b : 4 * room ≤ length xs) where
  pub adds_none : filled c ≡ false → StoresAs xs (added room (rings_of count xs) c) (Ok count) xs
  adds_none e =
      let n = length-rings count xs in
      stores-rings xs (added room (rings_of count xs) c) (rings_of count xs) count xs (added_none room (rings_of count xs) c (omega arith) e) (sym n) (sym (stored_same xs count (omega arith)))

  module _ (e : filled c ≡ true) (a : apart_all (rings_of count xs) c ≡ true) where
    left-whole : left (rings_of count xs) c ≡ c ∷ []
    unfolding left
    left-whole = ap (λ (l : List Ring). subtract_all l (rings_of count xs)) (kept-yes c e) ∙ (all_left (rings_of count xs) c a).0

    -- a ring that overlaps none, and no room for it
    pub adds-full : room ≤ count → StoresAs xs (added room (rings_of count xs) c) (Err (refused_of RingsOverRoom)) xs
    unfolding room_for
    adds-full k =
        let ks = rings_of count xs in
        let len = length-rings count xs in
        let few = ap length left-whole in
        let f : room_for room ks c ≡ false =
        and_no (in_hand 256 (kept c) ks) (leb (length ks + length (left ks c)) room) (lt-leb (length ks + length (left ks c)) room (omega arith)) in
        stores-refused xs (added room ks c) (refused_of RingsOverRoom) RingsOverRoom refl (added-no room ks c f)
      where
        and_no : (a b : Bool) → b ≡ false → (a && b) ≡ false
        and_no true b e = e
        and_no false b e = refl

    -- and with room
    pub adds-whole : count < room → StoresAs xs (added room (rings_of count xs) c) (Ok (count + 1)) (write xs count c)
    unfolding room_for
    adds-whole k =
        let ks = rings_of count xs in
        let len = length-rings count xs in
        let few = ap length left-whole in
        let f : room_for room ks c ≡ true =
        and_yes (in_hand 256 (kept c) ks) (leb (length ks + length (left ks c)) room) (ap (λ (l : List Ring). in_hand 256 l ks) (kept-yes c e) ∙ (all_left ks c a).1) (le-leb (length ks + length (left ks c)) room (omega arith)) in
        let m : length (ks ++ (c ∷ [])) ≡ length ks + 1 = length-append ks (c ∷ []) in
        stores-rings xs (added room ks c) (ks ++ (c ∷ [])) (count + 1) (write xs count c) (added-yes room ks c f ∙ ap (λ (l : List Ring). answers (ks ++ l)) left-whole) (omega arith)
        (write-behind xs count c (omega arith))

-- a ring cut in hand: no more pieces than the room there
module _ (room count few : ℕ) (c : Ring) (xs hand : List Float) (r : ℕ) (cut : Subtracted few (kept c) (rings_of count xs) hand r) where
  counted : (t : Bool) → in_hand few (kept c) (rings_of count xs) ≡ t → r ≡ pick t (length (left (rings_of count xs) c)) (few + 1)
  unfolding left
  counted t g = cut.count ∙ ap (λ (b : Bool). pick b (length (subtract_all (kept c) (rings_of count xs))) (few + 1)) g

  pub in-hand : r ≤ few → in_hand few (kept c) (rings_of count xs) ≡ true
  unfolding pick
  in-hand l = go (in_hand few (kept c) (rings_of count xs)) refl
    where
      go : (t : Bool) → in_hand few (kept c) (rings_of count xs) ≡ t → in_hand few (kept c) (rings_of count xs) ≡ true
      go true g = g
      go false g = let a : r ≡ few + 1 = counted false g in absurd (omega arith)

  -- what is left is in hand, and only the store's room is to be asked
  pub added-pieces : r ≤ few → few ≤ 256 → demand (leb (count + r) room) 11 (answers (rings_of count xs ++ rings_of r hand)) ≡ added room (rings_of count xs) c
  unfolding added room_for left pick
  added-pieces l h =
      let ks = rings_of count xs in
      let g = in-hand l in
      let a : r ≡ length (left ks c) = counted true g in
      ap₂ (λ (b : Bool) (m : List Ring). demand b 11 (answers (ks ++ m)))
      (ap₂ (λ (x y : ℕ). leb (x + y) room) (sym (length-rings count xs)) a ∙ sym (ap (λ (b : Bool). b && leb (length ks + length (left ks c)) room) (in-hand-more few 256 (kept c) ks h g)))
      (cut.same g)

  -- more than 256 in hand
  pub added-over : few ≡ 256 → few < r → added room (rings_of count xs) c ≡ refuses (only 11)
  unfolding room_for left pick
  added-over h l = added-no room (rings_of count xs) c (go (in_hand 256 (kept c) (rings_of count xs)) refl)
    where
      go : (t : Bool) → in_hand 256 (kept c) (rings_of count xs) ≡ t → room_for room (rings_of count xs) c ≡ false
      go false g = ap (λ (b : Bool). b && leb (length (rings_of count xs) + length (left (rings_of count xs) c)) room) g
      go true g =
          let a : r ≡ length (left (rings_of count xs) c) = counted true (ap (λ (m : ℕ). in_hand m (kept c) (rings_of count xs)) h ∙ g) in
          let m : length (left (rings_of count xs) c) ≤ 256 = in-hand-few 256 (kept c) (rings_of count xs) (let k = kept-few c in omega arith) g in
          absurd (omega arith)

  -- of a ring that is taken as it stands: the pieces in hand, copied to the front of others
  pub leaves-pieces : (m : ℕ) → count ≡ m → few ≡ 256 → r ≤ few → (ys zs : List Float) → zs ≡ store_as ys (rings_of 0 ys ++ rings_of r hand) → LeavesOf ys (leaves (rings_of m xs) c) (Ok r) zs
  unfolding leaves left count_of onward rings_of pick
  leaves-pieces m k h l ys zs e =
      subst (λ (n : ℕ). LeavesOf ys (leaves (rings_of n xs) c) (Ok r) zs) k
      (let g = in-hand l in
      let ks = rings_of count xs in
      let g' : in_hand 256 (kept c) ks ≡ true = ap (λ (m : ℕ). in_hand m (kept c) ks) (sym h) ∙ g in
      let p : leaves ks c ≡ answers (left ks c) = demand-true (in_hand 256 (kept c) ks) 11 (answers (left ks c)) g' in
      record { answer = ap answers (counted true g) ∙ sym (ap count_of p); store = e ∙ ap (store_as ys) (cut.same g) ∙ sym (ap (store_after ys) p) })

  -- and more than 256
  pub leaves-over : (m : ℕ) → count ≡ m → few ≡ 256 → few < r → (ys : List Float) → LeavesOf ys (leaves (rings_of m xs) c) (Err RingsOverRoom) ys
  unfolding leaves left count_of onward pick
  leaves-over m k h l ys = subst (λ (n : ℕ). LeavesOf ys (leaves (rings_of n xs) c) (Err RingsOverRoom) ys) k (go (in_hand 256 (kept c) (rings_of count xs)) refl)
    where
      go : (t : Bool) → in_hand 256 (kept c) (rings_of count xs) ≡ t → LeavesOf ys (leaves (rings_of count xs) c) (Err RingsOverRoom) ys
      go false g =
          let p : leaves (rings_of count xs) c ≡ refuses (only 11) = demand-false (in_hand 256 (kept c) (rings_of count xs)) 11 (answers (left (rings_of count xs) c)) g in
          record { answer = sym (ap count_of p); store = sym (ap (store_after ys) p) }
      go true g =
          let a : r ≡ length (left (rings_of count xs) c) = counted true (ap (λ (m : ℕ). in_hand m (kept c) (rings_of count xs)) h ∙ g) in
          let m : length (left (rings_of count xs) c) ≤ 256 = in-hand-few 256 (kept c) (rings_of count xs) (let k = kept-few c in omega arith) g in
          absurd (omega arith)

-- pieces stored, or refused
pub stores-past : (xs hand : List Float) (room count n : ℕ) → room < count + n → StoresAs xs (demand (leb (count + n) room) 11 (answers (rings_of count xs ++ rings_of n hand))) (Err (refused_of RingsOverRoom)) xs
stores-past xs hand room count n h =
    stores-refused xs (demand (leb (count + n) room) 11 (answers (rings_of count xs ++ rings_of n hand))) (refused_of RingsOverRoom) RingsOverRoom refl (demand-false (leb (count + n) room) 11 (answers (rings_of count xs ++ rings_of n hand)) (lt-leb (count + n) room h))

pub stores-pieces : (xs hand ys : List Float) (room count n : ℕ) → count + n ≤ room → ys ≡ store_as xs (rings_of count xs ++ rings_of n hand)
    → StoresAs xs (demand (leb (count + n) room) 11 (answers (rings_of count xs ++ rings_of n hand))) (Ok (count + n)) ys
stores-pieces xs hand ys room count n h y =
    let l = rings_of count xs ++ rings_of n hand in
    stores-rings xs (demand (leb (count + n) room) 11 (answers l)) l (count + n) ys (demand-true (leb (count + n) room) 11 (answers l) (le-leb (count + n) room h))
    (sym (length-append (rings_of count xs) (rings_of n hand) ∙ ap₂ ◌+◌ (length-rings count xs) (length-rings n hand))) y

-- the same promise of the same rule, said otherwise
pub stores_as : {xs ys : List Float} {r : (Result ℕ Refused)} {p q : Paper (List Ring)} → p ≡ q → StoresAs xs p r ys → StoresAs xs q r ys
stores_as {xs} {ys} {r} e s = subst (λ (v : Paper (List Ring)). StoresAs xs v r ys) e s

pub adds-as : {xs ys : List Float} {r : Result Added Refusal} {p q : Paper (List Ring)} {m k : ℕ} → p ≡ q → m ≡ k → Adds xs p m r ys → Adds xs q k r ys
adds-as {xs} {ys} {r} {p} {q} {m} {k} e f s = subst (λ (v : Paper (List Ring)). Adds xs v k r ys) e (subst (λ (j : ℕ). Adds xs p j r ys) f s)

-- the answer without the tests: a count, or a refusal of no place that is handed on
pub stores-counted : {xs ys : List Float} {a : Result Added Refusal} {p : Paper (List Ring)} {m : ℕ} (t : Added) → a ≡ Ok t → Adds xs p m a ys → StoresAs xs p (Ok t.rings) ys
stores-counted {xs} {ys} {a} {p} t e s = subst (λ (v : Result Added Refusal). StoresAs xs p (stored_by v) ys) e s.stores

pub stores-on : {xs ys : List Float} {a : Result Added Refusal} {p : Paper (List Ring)} {m : ℕ} (r : Result ℕ Refused) (x : Refusal) → a ≡ Err x → IsErrAnd r (λ c. c ≡ refused_of x) → Adds xs p m a ys → StoresAs xs p r ys
stores-on {xs} {ys} {a} {p} r x e h s =
    let c = err_from_is_err_and r h in
    let v : r ≡ stored_by a = c.1 ∙ ap Err c.2 ∙ sym (ap stored_by e) in
    subst (λ (v : Result ℕ Refused). StoresAs xs p v ys) (sym v) s.stores

-- ---- a list of rings
added_all-append : (e : Ring) (room : ℕ) (ks s t : List Ring) → added_all e room ks (s ++ t) ≡ onward (added_all e room ks s) (λ l. added_all e room l t)
unfolding added_all onward
added_all-append e room ks [] t = refl
added_all-append e room ks (q ∷ s) t = go (added room ks (clip e q)) (λ l. added_all-append e room l s t)
  where
    go : (p : Paper (List Ring)) → ((l : List Ring) → added_all e room l (s ++ t) ≡ onward (added_all e room l s) (λ m. added_all e room m t))
        → onward p (λ l. added_all e room l (s ++ t)) ≡ onward (onward p (λ l. added_all e room l s)) (λ m. added_all e room m t)
    go (answers l) h = h l
    go (refuses n) h = refl

onward-same : (p : Paper (List Ring)) → onward p (λ m. answers m) ≡ p
unfolding onward
onward-same (answers l) = refl
onward-same (refuses n) = refl

-- one ring more, of those lent
added_next : (e : Ring) (room : ℕ) (ks : List Ring) (news : List Float) (i : ℕ) (l : List Ring) → added_all e room ks (rings_of i news) ≡ answers l
    → added_all e room ks (rings_of (i + 1) news) ≡ added room l (clip e (ring_at news i))
unfolding added_all onward
added_next e room ks news i l f =
    ap (added_all e room ks) (rings-next news i) ∙ added_all-append e room ks (rings_of i news) (ring_at news i ∷ [])
    ∙ ap (λ (p : Paper (List Ring)). onward p (λ m. added_all e room m (ring_at news i ∷ []))) f ∙ onward-same (added room l (clip e (ring_at news i)))

-- a list of one
pub added-one : (e : Ring) (room : ℕ) (ks : List Ring) (news : List Float) (c : Ring) → c ≡ clip e (ring_at news 0) → added room ks c ≡ added_all e room ks (rings_of 1 news)
unfolding added_all rings_of
added-one e room ks news c f = ap (added room ks) f ∙ sym (added_next e room ks news 0 ks refl)

-- once refused it stays so
pub refused-more : (e : Ring) (room : ℕ) (ks : List Ring) (news : List Float) (x : Reason) (i c : ℕ) → i ≤ c → added_all e room ks (rings_of i news) ≡ refuses x → added_all e room ks (rings_of c news) ≡ refuses x
unfolding rings_of onward
refused-more e room ks news x i c h f = go c h
  where
    go : (c : ℕ) → i ≤ c → added_all e room ks (rings_of c news) ≡ refuses x
    go zero h = let z : i ≡ 0 = omega arith in subst (λ (n : ℕ). added_all e room ks (rings_of n news) ≡ refuses x) z f
    go (suc c) h =
        elim (eq-or-lt_of_le h) [
          | inl p ↦ subst (λ (n : ℕ). added_all e room ks (rings_of n news) ≡ refuses x) p f
          | inr q ↦ added_all-append e room ks (rings_of c news) (ring_at news c ∷ []) ∙ ap (λ (p : Paper (List Ring)). onward p (λ m. added_all e room m (ring_at news c ∷ []))) (go c (omega arith))
        ]

-- the first i of the new rings are added to the rings ks, in a store of its own
pub record Adding (e : Ring) (room : ℕ) (ks : List Ring) (news : List Float) (i : ℕ) (work : List Float) (n : ℕ) : Type 0 where
  pub size : length work ≡ 1024
  pub within : n ≤ room
  pub rule : added_all e room ks (rings_of i news) ≡ answers (rings_of n work)

-- at first it has the rings ks, copied from the lent ones
pub adding-start : (e : Ring) (room : ℕ) (xs news work work' : List Float) (n : ℕ) → length work ≡ 1024 → n ≤ room → n ≤ 256 → work' ≡ store_as work (rings_of 0 work ++ rings_of n xs)
    → Adding e room (rings_of n xs) news 0 work' n
unfolding rings_of added_all
adding-start e room xs news work work' n s h k f =
    record {
      size = ap length f ∙ length-stored work (rings_of n xs) (let m = length-rings n xs in omega arith) ∙ s;
      within = h;
      rule = ap answers (sym (ap (rings_of n) f ∙ rings-copied work xs n));
    }

module _ (e : Ring) (room : ℕ) (ks : List Ring) (news : List Float) (i : ℕ) (work : List Float) (n : ℕ) (g : Adding e room ks news i work n)
    (c : Ring) (f : c ≡ clip e (ring_at news i)) (work' : List Float) (r : Result ℕ Refused) (a : StoresAs work (added room (rings_of n work) c) r work') where
  next-rule : added_all e room ks (rings_of (i + 1) news) ≡ added room (rings_of n work) c
  next-rule = added_next e room ks news i (rings_of n work) g.rule ∙ ap (added room (rings_of n work)) (sym f)

  pub adding-step : (m : ℕ) → r ≡ Ok m → length work' ≡ length work → Adding e room ks news (i + 1) work' m
  adding-step m h l =
      let y = accepted work (added room (rings_of n work) c) r work' m a h in
      let z = added-room room (rings_of n work) c y.rings y.rule in
      record {
        size = l ∙ g.size;
        within = let u = y.count in let v = z.1 in omega arith;
        rule = next-rule ∙ y.rule ∙ ap answers (sym (ap₂ rings_of y.count y.store ∙ rings-stored work y.rings));
      }

  pub adding-refused : (x : Reason) (k : ℕ) → placed_of r ≡ refuses x → i < k → added_all e room ks (rings_of k news) ≡ refuses x
  adding-refused x k h l =
      refused-more e room ks news x (i + 1) k (omega arith) (next-rule ∙ (refused work (added room (rings_of n work) c) r work' x a h).0)
