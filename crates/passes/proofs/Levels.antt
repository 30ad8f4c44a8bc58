-- Passes written behind each other into the three lent lists. Assumes nothing.
use mathlib.Core.Path.{◌≡◌, refl, sym, ap, ap₂, ◌∙◌}
use mathlib.Core.Bool.{Bool, true, false, ◌&&◌, and-false}
use mathlib.Core.List.{List, [], ◌∷◌, ◌++◌, append-nil}
use Prim.Native.Nat.{ℕ, ◌+◌, ◌*◌, ◌≤◌, ◌<◌}
use native.Mathlib.Omega.{arith}
use lib.Dec.{ltb}
use lib.ListN.{length, take, replicate, length-append, length-take, length-replicate, replicate-append-replicate}
use lib.Seq.{sets, take_all, take-nil, take-append-le}
use lib.Ieee.{Float, le}
use borrow.Author.Tests.{lt-ltb, le-ltb, ltb-true, ltb-false}
use Rattle.refusals.specs.Lent.{over}
use Rattle.refusals.proofs.Written.{over-more, length_over}
use Rattle.floats.specs.Pick.{pick, pick_true, pick-false}
use Rattle.passes.specs.declared.propose.Level.{Level}
use Rattle.passes.specs.Propose.{six_of, sixes, room_in, lists, PutLevel, ListLevel, Listing}

-- ---- a pass is listed, or not

-- it is not due: the lists stay
pub list-none : (due : Bool) (p : Level) (k : ℕ) (ks : List ℕ) (xs : List Float) (ps : List ℕ) → (due && le p.a p.b) ≡ false → ListLevel due p k k ks ks xs xs ps ps
unfolding lists
list-none due p k ks xs ps e =
    let n : ((due && le p.a p.b) && ltb k (room_in ks xs ps)) ≡ false = simp e in
    record { count = sym (pick-false _ _ _ n); kinds = sym (pick-false _ _ _ n); numbers = sym (pick-false _ _ _ n); parts = sym (pick-false _ _ _ n) }

-- there is no room: the lists stay
pub list_full : (due : Bool) (p : Level) (k : ℕ) (ks : List ℕ) (xs : List Float) (ps : List ℕ) → room_in ks xs ps ≤ k → ListLevel due p k k ks ks xs xs ps ps
unfolding lists
list_full due p k ks xs ps h =
    let n : ((due && le p.a p.b) && ltb k (room_in ks xs ps)) ≡ false = ap (λ (t : Bool). (due && le p.a p.b) && t) (le-ltb k (room_in ks xs ps) h) ∙ and-false (due && le p.a p.b) in
    record { count = sym (pick-false _ _ _ n); kinds = sym (pick-false _ _ _ n); numbers = sym (pick-false _ _ _ n); parts = sym (pick-false _ _ _ n) }

-- it is due, and there is room
pub list_put : (due : Bool) (p : Level) (k : ℕ) (ks ks' : List ℕ) (xs xs' : List Float) (ps ps' : List ℕ) → (due && le p.a p.b) ≡ true → k < room_in ks xs ps → PutLevel k p ks ks' xs xs' ps ps' → ListLevel due p k (k + 1) ks ks' xs xs' ps ps'
unfolding lists
list_put due p k ks ks' xs xs' ps ps' e h q =
    let y : ((due && le p.a p.b) && ltb k (room_in ks xs ps)) ≡ true = simp (e, lt-ltb k (room_in ks xs ps) h) in
    record {
      count = sym (pick_true _ _ _ y);
      kinds = q.kinds ∙ sym (pick_true _ _ _ y);
      numbers = q.numbers ∙ sym (pick_true _ _ _ y);
      parts = q.parts ∙ sym (pick_true _ _ _ y);
    }

-- ---- the numbers of passes

pub length-sixes : (l : List Level) → length (sixes l) ≡ 6 * length l
unfolding sixes
length-sixes [] = refl
length-sixes (p ∷ l) = let h = length-sixes l in omega arith

pub sixes-more : (l : List Level) (p : Level) → sixes (l ++ (p ∷ [])) ≡ sixes l ++ six_of p
unfolding sixes
sixes-more [] p = refl
sixes-more (q ∷ l) p = rw (sixes-more l p)

-- ---- one more of a list, as far as there is room

taken : (room : ℕ) (l : List Level) (p : Level) → length (take room l) < room → take room (l ++ (p ∷ [])) ≡ take room l ++ (p ∷ [])
taken room l p h =
    let t = length-take room l in
    let a = length-append l (p ∷ []) in
    take_all room (l ++ (p ∷ [])) (omega arith) ∙ ap (λ (m : List Level). m ++ (p ∷ [])) (sym (take_all room l (omega arith)))

full : (room : ℕ) (l m : List Level) → room ≤ length (take room l) → take room (l ++ m) ≡ take room l
full room l m h = let t = length-take room l in take-append-le room l m (omega arith)

-- some more behind what stands over a front
front-more : {A : Type 0} (xs ys b c c' : List A) (at : ℕ) → c ≡ over xs b → at ≡ length xs → length xs + length ys ≤ length b → c' ≡ sets c at ys → c' ≡ over (xs ++ ys) b
front-more {A} xs ys b c c' at ec ea h e = e ∙ ap₂ (λ (u : List A) (v : ℕ). sets u v ys) ec ea ∙ over-more xs ys b h

zeros : (n m : ℕ) → replicate {A = ℕ} n 0 ++ replicate m 0 ≡ replicate (n + m) 0
zeros n m = replicate-append-replicate n m 0

-- ---- nothing is written yet
pub listing_none : (ks : List ℕ) (xs : List Float) (ps : List ℕ) → Listing [] 0 ks ks xs xs ps ps
unfolding sixes over
listing_none ks xs ps = record { count = refl; kinds = refl; numbers = refl; parts = refl }

pub begun : (room : ℕ) (l : List Level) (ks : List ℕ) (xs : List Float) (ps : List ℕ) → l ≡ [] → Listing (take room l) 0 ks ks xs xs ps ps
begun room l ks xs ps e = rw (e, take-nil room) (listing_none ks xs ps)

-- what is written keeps the lengths
pub record Lengths (ks₀ ks : List ℕ) (xs₀ xs : List Float) (ps₀ ps : List ℕ) : Type 0 where
  pub kinds : length ks ≡ length ks₀
  pub numbers : length xs ≡ length xs₀
  pub parts : length ps ≡ length ps₀

pub listing-lengths : (l : List Level) (k : ℕ) (ks₀ ks : List ℕ) (xs₀ xs : List Float) (ps₀ ps : List ℕ) → length l ≤ room_in ks₀ xs₀ ps₀ → Listing l k ks₀ ks xs₀ xs ps₀ ps → Lengths ks₀ ks xs₀ xs ps₀ ps
listing-lengths l k ks₀ ks xs₀ xs ps₀ ps h g =
    let a = length-replicate {A = ℕ} (length l) 0 in
    let b = length-sixes l in
    let c = length-replicate {A = ℕ} (2 * length l) 0 in
    record {
      kinds = ap length g.kinds ∙ length_over (replicate (length l) 0) ks₀ (omega arith);
      numbers = ap length g.numbers ∙ length_over (sixes l) xs₀ (omega arith);
      parts = ap length g.parts ∙ length_over (replicate (2 * length l) 0) ps₀ (omega arith);
    }

-- so do the first of a list for which there is room
pub taken-lengths : (l : List Level) (k : ℕ) (ks₀ ks : List ℕ) (xs₀ xs : List Float) (ps₀ ps : List ℕ) → Listing (take (room_in ks₀ xs₀ ps₀) l) k ks₀ ks xs₀ xs ps₀ ps → Lengths ks₀ ks xs₀ xs ps₀ ps
taken-lengths l k ks₀ ks xs₀ xs ps₀ ps g =
    let t = length-take (room_in ks₀ xs₀ ps₀) l in
    listing-lengths (take (room_in ks₀ xs₀ ps₀) l) k ks₀ ks xs₀ xs ps₀ ps (omega arith) g

-- ---- one pass more
module _ (l : List Level) (p : Level) (k : ℕ) (ks₀ ks ks' : List ℕ) (xs₀ xs xs' : List Float) (ps₀ ps ps' : List ℕ) (below : length l < room_in ks₀ xs₀ ps₀) (g : Listing l k ks₀ ks xs₀ xs ps₀ ps) where
  listing-put : PutLevel k p ks ks' xs xs' ps ps' → Listing (l ++ (p ∷ [])) (k + 1) ks₀ ks' xs₀ xs' ps₀ ps'
  listing-put q =
      let n = g.count in
      let more = length-append l (p ∷ []) in
      let a = length-replicate {A = ℕ} (length l) 0 in
      let b = length-sixes l in
      let c = length-replicate {A = ℕ} (2 * length l) 0 in
      let two : 2 * (length l + 1) ≡ 2 * length l + 2 = omega arith in
      record {
        count = omega arith;
        kinds = rw (more, ← zeros (length l) 1) (front-more (replicate (length l) 0) (0 ∷ []) ks₀ ks ks' k g.kinds (omega arith) (omega arith) q.kinds);
        numbers = rw (sixes-more l p) (front-more (sixes l) (six_of p) xs₀ xs xs' (6 * k) g.numbers (omega arith) (omega arith) q.numbers);
        parts = rw (more, two, ← zeros (2 * length l) 2) (front-more (replicate (2 * length l) 0) (0 ∷ 0 ∷ []) ps₀ ps ps' (2 * k) g.parts (omega arith) (omega arith) q.parts);
      }

-- ---- a pass listed where it is due and there is room
module _ (l : List Level) (p : Level) (due : Bool) (k k' : ℕ) (ks₀ ks ks' : List ℕ) (xs₀ xs xs' : List Float) (ps₀ ps ps' : List ℕ) (g : Listing (take (room_in ks₀ xs₀ ps₀) l) k ks₀ ks xs₀ xs ps₀ ps) (q : ListLevel due p k k' ks ks' xs xs' ps ps') where
  -- the room is that of the lists as they were
  same-room : room_in ks xs ps ≡ room_in ks₀ xs₀ ps₀
  same-room =
      let e = taken-lengths l k ks₀ ks xs₀ xs ps₀ ps g in
      rw (e.kinds, e.numbers, e.parts)

  -- it is not listed
  stays : lists due p k (room_in ks xs ps) ≡ false → (m : List Level) → take (room_in ks₀ xs₀ ps₀) m ≡ take (room_in ks₀ xs₀ ps₀) l → Listing (take (room_in ks₀ xs₀ ps₀) m) k' ks₀ ks' xs₀ xs' ps₀ ps'
  stays n m e =
      rw e (record {
        count = q.count ∙ pick-false _ _ _ n ∙ g.count;
        kinds = q.kinds ∙ pick-false _ _ _ n ∙ g.kinds;
        numbers = q.numbers ∙ pick-false _ _ _ n ∙ g.numbers;
        parts = q.parts ∙ pick-false _ _ _ n ∙ g.parts;
      })

  -- it is
  grows : lists due p k (room_in ks xs ps) ≡ true → k < room_in ks₀ xs₀ ps₀ → Listing (take (room_in ks₀ xs₀ ps₀) (l ++ (p ∷ []))) k' ks₀ ks' xs₀ xs' ps₀ ps'
  grows y h =
      let c = g.count in
      let e = q.count ∙ pick_true _ _ _ y in
      rw (taken (room_in ks₀ xs₀ ps₀) l p (omega arith), e) (listing-put (take (room_in ks₀ xs₀ ps₀) l) p k ks₀ ks ks' xs₀ xs xs' ps₀ ps ps' (omega arith) g (record {
        kinds = q.kinds ∙ pick_true _ _ _ y;
        numbers = q.numbers ∙ pick_true _ _ _ y;
        parts = q.parts ∙ pick_true _ _ _ y;
      }))

  pub listing-next : Listing (take (room_in ks₀ xs₀ ps₀) (l ++ pick (due && le p.a p.b) (p ∷ []) [])) k' ks₀ ks' xs₀ xs' ps₀ ps'
  unfolding lists
  listing-next = go (due && le p.a p.b) refl (ltb k (room_in ks xs ps)) refl
    where
      go : (t : Bool) → (due && le p.a p.b) ≡ t → (u : Bool) → ltb k (room_in ks xs ps) ≡ u → Listing (take (room_in ks₀ xs₀ ps₀) (l ++ pick (due && le p.a p.b) (p ∷ []) [])) k' ks₀ ks' xs₀ xs' ps₀ ps'
      go false e u f = stays (simp e) _ (rw (pick-false (due && le p.a p.b) (p ∷ []) [] e, append-nil l))
      go true e true f = rw (pick_true (due && le p.a p.b) (p ∷ []) [] e) (grows (simp (e, f)) (omega (arith, ltb-true k (room_in ks xs ps) f, same-room)))
      go true e false f = stays (simp (e, f)) _ (full (room_in ks₀ xs₀ ps₀) l _ (omega (arith, ltb-false k (room_in ks xs ps) f, same-room, g.count)))
