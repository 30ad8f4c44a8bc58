-- Pieces in hand: one piece more, a piece split, all pieces less one ring, and less all rings, each after the other in the buffer. Assumes nothing.
use Prim.Native.Nat.{ℕ, ◌+◌, ◌*◌, ◌/◌, ◌≤◌, ◌<◌}
use native.Mathlib.Omega.{arith}
use mathlib.Core.Path.{◌≡◌, refl, sym, ◌∙◌, ap, ap₂, subst}
use mathlib.Core.Bool.{Bool, true, false, ◌&&◌, true≢false, and-true}
use mathlib.Core.List.{List, [], ◌∷◌, ◌++◌, append_assoc, append-nil}
use lib.Dec.{leb}
use lib.ListN.{length, length-set}
use lib.Ieee.{Float}
use borrow.Author.Tests.{le-leb, lt-leb, leb-true}
use Rattle.floats.specs.Pick.{pick, pick_true, pick-false}
use Rattle.rings.specs.declared.Ring.{Ring}
use Rattle.rings.specs.Ring.{filled, apart, common, kept, before, behind, inside, outside, around, split, subtract, subtract_all, in_hand}
use Rattle.rings.specs.Store.{ring_at, rings_of, store_as, write, apart_all}
use Rattle.rings.specs.declared.hand.Cut.{Cut}
use Rattle.rings.specs.Hand.{Holds, Grows, Subtracted, CutsAll}
use Rattle.rings.proofs.Flat.{rings-next, length-snoc, length-rings, rings-written, length-stored, rings-copied}
use Rattle.rings.proofs.Prefix.{stays-false}

-- ---- one piece more
pub holds-none : (room : ℕ) (xs : List Float) → length xs / 4 ≡ room → Holds room xs 0 []
unfolding rings_of
holds-none room xs h = record { size = h; count = omega arith; same = λ _. refl }

pub grows-written : (xs : List Float) (n : ℕ) (q : Ring) → n < length xs / 4 → Grows xs n (write xs n q) (n + 1) (q ∷ [])
grows-written xs n q h =
    record {
      onto = λ room l k.
          record {
            size = simp length-set k.size;
            count = let f = length-snoc l q in let g = k.count in let e = k.size in omega arith;
            same = λ b. rings-written xs n q (let e = k.size in omega arith) ∙ ap (λ (s : List Ring). s ++ (q ∷ [])) (k.same (omega arith));
          };
    }

pub grows-over : (xs : List Float) (n : ℕ) (q : Ring) → length xs / 4 ≤ n → Grows xs n xs (length xs / 4 + 1) (q ∷ [])
grows-over xs n q h =
    record {
      onto = λ room l k. record { size = k.size; count = let f = length-snoc l q in let g = k.count in let e = k.size in omega arith; same = λ b. absurd (let e = k.size in omega arith) };
    }

grows_none : (xs : List Float) (n : ℕ) → Grows xs n xs n []
grows_none xs n = record { onto = λ room l k. rw append-nil k }

-- one after the other
grows-on : {xs ys zs : List Float} {n m k : ℕ} {s t : List Ring} → Grows xs n ys m s → Grows ys m zs k t → Grows xs n zs k (s ++ t)
grows-on {s = s} {t = t} a b = record { onto = λ room l h. rw (← append_assoc l s t) (b.onto room (l ++ s) (a.onto room l h)) }

-- the same pieces, said otherwise
grows-as : {xs ys : List Float} {n m : ℕ} {s t : List Ring} → s ≡ t → Grows xs n ys m s → Grows xs n ys m t
grows-as {xs} {ys} {n} {m} e g = subst (λ (l : List Ring). Grows xs n ys m l) e g

-- ---- a ring that is not empty, and one that is
pub grows-kept : {xs ys : List Float} {n m : ℕ} (q : Ring) → filled q ≡ true → Grows xs n ys m (q ∷ []) → Grows xs n ys m (kept q)
unfolding kept
grows-kept q e g = grows-as (sym (pick_true (filled q) (q ∷ []) [] e)) g

pub grows-dropped : (xs : List Float) (n : ℕ) (q : Ring) → filled q ≡ false → Grows xs n xs n (kept q)
unfolding kept
grows-dropped xs n q e = grows-as (sym (pick-false (filled q) (q ∷ []) [] e)) (grows_none xs n)

-- one piece at most
pub kept-few : (c : Ring) → length (kept c) ≤ 1
unfolding kept pick
kept-few c = go (filled c)
  where
    go : (t : Bool) → length (pick t (c ∷ []) []) ≤ 1
    go true = omega arith
    go false = omega arith

-- ---- a piece split
pub grows-whole : {xs ys : List Float} {n m : ℕ} (p k : Ring) → apart p k ≡ true → Grows xs n ys m (p ∷ []) → Grows xs n ys m (split p k)
unfolding split
grows-whole p k e g = grows-as (sym (pick_true (apart p k) (p ∷ []) (around p (common p k)) e)) g

pub grows-around : {xs₀ xs₁ xs₂ xs₃ xs₄ : List Float} {n₀ n₁ n₂ n₃ n₄ : ℕ} (p k o : Ring) → o ≡ common p k → apart p k ≡ false
    → Grows xs₀ n₀ xs₁ n₁ (kept (before p o)) → Grows xs₁ n₁ xs₂ n₂ (kept (behind p o)) → Grows xs₂ n₂ xs₃ n₃ (kept (inside p o)) → Grows xs₃ n₃ xs₄ n₄ (kept (outside p o))
    → Grows xs₀ n₀ xs₄ n₄ (split p k)
unfolding split around
grows-around p k o e f a b c d = grows-as (ap (around p) e ∙ sym (pick-false (apart p k) (p ∷ []) (around p (common p k)) f)) (grows-on (grows-on (grows-on a b) c) d)

-- ---- all pieces less one ring
subtract-append : (s t : List Ring) (k : Ring) → subtract (s ++ t) k ≡ subtract s k ++ subtract t k
unfolding subtract
subtract-append [] t k = refl
subtract-append (p ∷ s) t k = rw (subtract-append s t k, append_assoc (split p k) (subtract s k) (subtract t k))

subtract-next : (xs : List Float) (i : ℕ) (k : Ring) → subtract (rings_of (i + 1) xs) k ≡ subtract (rings_of i xs) k ++ split (ring_at xs i) k
unfolding subtract
subtract-next xs i k =
    ap (λ (l : List Ring). subtract l k) (rings-next xs i) ∙ subtract-append (rings_of i xs) (ring_at xs i ∷ []) k ∙ ap (λ (l : List Ring). subtract (rings_of i xs) k ++ l) (append-nil (split (ring_at xs i) k))

pub pieces-start : (hand xs : List Float) (k : Ring) → Grows xs 0 xs 0 (subtract (rings_of 0 hand) k)
unfolding subtract rings_of
pieces-start hand xs k = grows_none xs 0

pub pieces-next : {xs ys zs : List Float} {m r : ℕ} (hand : List Float) (i : ℕ) (k p : Ring) → p ≡ ring_at hand i
    → Grows xs 0 ys m (subtract (rings_of i hand) k) → Grows ys m zs r (split p k) → Grows xs 0 zs r (subtract (rings_of (i + 1) hand) k)
pieces-next hand i k p e a b = grows-as (ap (λ (q : Ring). subtract (rings_of i hand) k ++ split q k) e ∙ sym (subtract-next hand i k)) (grows-on a b)

-- ---- a ring that overlaps no piece leaves all of them as they are
pub subtract-apart : (ps : List Ring) (k : Ring) → apart_all ps k ≡ true → subtract ps k ≡ ps
unfolding subtract split apart_all
subtract-apart [] k e = refl
subtract-apart (p ∷ ps) k e = go (apart p k) refl e (subtract-apart ps k)
  where
    go : (t : Bool) → apart p k ≡ t → (t && apart_all ps k) ≡ true → (apart_all ps k ≡ true → subtract ps k ≡ ps) → pick (apart p k) (p ∷ []) (around p (common p k)) ++ subtract ps k ≡ p ∷ ps
    go true f g h = ap (λ (l : List Ring). l ++ subtract ps k) (pick_true (apart p k) (p ∷ []) (around p (common p k)) f) ∙ ap (λ (l : List Ring). p ∷ l) (h g)
    go false f g h = absurd (true≢false (sym g))

pub cut_apart : (room : ℕ) (hand : List Float) (n : ℕ) (k : Ring) → length hand / 4 ≡ room → n ≤ room → apart_all (rings_of n hand) k ≡ true → Holds room hand n (subtract (rings_of n hand) k)
cut_apart room hand n k s h e =
    let f = subtract-apart (rings_of n hand) k e in
    record {
      size = s;
      count = let g = ap length f in let m = length-rings n hand in omega arith;
      same = λ _. sym f;
    }

-- what was made in the other buffer, copied back
pub cut-copied : (room : ℕ) (hand hand' next : List Float) (m : ℕ) (l : List Ring) → length hand / 4 ≡ room → Holds room next m l → m ≤ room → hand' ≡ store_as hand (rings_of 0 hand ++ rings_of m next)
    → Holds room hand' m l
unfolding rings_of
cut-copied room hand hand' next m l s h k y =
    record {
      size = ap (λ (w : List Float). length w / 4) y ∙ ap (λ (w : ℕ). w / 4) (length-stored hand (rings_of m next) (let e = length-rings m next in let f = h.size in omega arith)) ∙ s;
      count = h.count;
      same = λ _. ap (rings_of m) y ∙ rings-copied hand next m ∙ h.same k;
    }

-- where there are too many, nothing is said of the buffer
pub cut-over : (room : ℕ) (hand next : List Float) (m : ℕ) (l : List Ring) → length hand / 4 ≡ room → Holds room next m l → room < m → Holds room hand m l
cut-over room hand next m l s h k = record { size = s; count = h.count; same = λ b. absurd (omega arith) }

-- ---- all pieces less all rings
subtract_all-append : (ps s t : List Ring) → subtract_all ps (s ++ t) ≡ subtract_all (subtract_all ps s) t
unfolding subtract_all
subtract_all-append ps [] t = refl
subtract_all-append ps (k ∷ s) t = subtract_all-append (subtract ps k) s t

in_hand-append : (most : ℕ) (ps s t : List Ring) → in_hand most ps (s ++ t) ≡ (in_hand most ps s && in_hand most (subtract_all ps s) t)
unfolding subtract_all in_hand
in_hand-append most ps [] t = refl
in_hand-append most ps (k ∷ s) t = go (leb (length (subtract ps k)) most) (in_hand-append most (subtract ps k) s t)
  where
    go : (b : Bool) → in_hand most (subtract ps k) (s ++ t) ≡ (in_hand most (subtract ps k) s && in_hand most (subtract_all (subtract ps k) s) t)
        → (b && in_hand most (subtract ps k) (s ++ t)) ≡ ((b && in_hand most (subtract ps k) s) && in_hand most (subtract_all (subtract ps k) s) t)
    go true e = e
    go false e = refl

-- what the next ring leaves
abbrev one_more : List Ring → List Ring → Ring → List Ring
one_more ps ks k = subtract (subtract_all ps ks) k

in_hand-snoc : (most : ℕ) (ps ks : List Ring) (k : Ring) → in_hand most ps (ks ++ (k ∷ [])) ≡ (in_hand most ps ks && leb (length (one_more ps ks k)) most)
unfolding in_hand
in_hand-snoc most ps ks k = in_hand-append most ps ks (k ∷ []) ∙ ap (λ (b : Bool). in_hand most ps ks && b) (and-true (leb (length (one_more ps ks k)) most))

subtract_all-snoc : (ps ks : List Ring) (k : Ring) → subtract_all ps (ks ++ (k ∷ [])) ≡ one_more ps ks k
unfolding subtract_all
subtract_all-snoc ps ks k = subtract_all-append ps ks (k ∷ [])

-- the first j rings are subtracted from ps, and what they leave are the m pieces in hand
pub record Going (room : ℕ) (ps : List Ring) (rings : List Float) (j : ℕ) (hand : List Float) (m : ℕ) : Type 0 where
  pub size : length hand / 4 ≡ room
  pub few : m ≤ room
  pub ok : in_hand room ps (rings_of j rings) ≡ true
  pub same : rings_of m hand ≡ subtract_all ps (rings_of j rings)

pub going_start : (room : ℕ) (rings hand : List Float) (n : ℕ) → length hand / 4 ≡ room → n ≤ room → Going room (rings_of n hand) rings 0 hand n
unfolding rings_of in_hand subtract_all
going_start room rings hand n h k = record { size = h; few = k; ok = refl; same = refl }

module _ (room : ℕ) (ps : List Ring) (rings : List Float) (j : ℕ) (hand : List Float) (m : ℕ) (g : Going room ps rings j hand m) (k : Ring) (e : k ≡ ring_at rings j)
    (hand' : List Float) (got : ℕ) (h : Holds room hand' got (subtract (rings_of m hand) k)) where
  next_of : subtract (rings_of m hand) k ≡ one_more ps (rings_of j rings) (ring_at rings j)
  next_of = ap₂ subtract g.same e

  next-ok : in_hand room ps (rings_of (j + 1) rings) ≡ leb (length (one_more ps (rings_of j rings) (ring_at rings j))) room
  next-ok =
      ap (in_hand room ps) (rings-next rings j) ∙ in_hand-snoc room ps (rings_of j rings) (ring_at rings j)
      ∙ ap (λ (b : Bool). b && leb (length (one_more ps (rings_of j rings) (ring_at rings j))) room) g.ok

  held : Holds room hand' got (one_more ps (rings_of j rings) (ring_at rings j))
  held = subst (λ (l : List Ring). Holds room hand' got l) next_of h

  pub going_step : got ≤ room → Going room ps rings (j + 1) hand' got
  going_step b =
      record {
        size = h.size;
        few = b;
        ok = next-ok ∙ le-leb (length (one_more ps (rings_of j rings) (ring_at rings j))) room (let f = held.count in omega arith);
        same = held.same b ∙ sym (ap (subtract_all ps) (rings-next rings j) ∙ subtract_all-snoc ps (rings_of j rings) (ring_at rings j));
      }

  pub going-over : (c : ℕ) → room < got → j < c → Subtracted room ps (rings_of c rings) hand' got
  going-over c b l =
      let f : in_hand room ps (rings_of c rings) ≡ false =
      stays-false (in_hand room ps) (λ ks p. leb (length (one_more ps ks p)) room) (in_hand-snoc room ps) rings (j + 1) c (omega arith)
      (next-ok ∙ lt-leb (length (one_more ps (rings_of j rings) (ring_at rings j))) room (let f = held.count in omega arith)) in
      let n : got ≡ room + 1 = (let f = held.count in omega arith) in
      record { size = h.size; count = n ∙ sym (pick-false (in_hand room ps (rings_of c rings)) (length (subtract_all ps (rings_of c rings))) (room + 1) f); same = λ t. absurd (true≢false (sym t ∙ f)) }

pub going_end : (room : ℕ) (ps : List Ring) (rings : List Float) (j : ℕ) (hand : List Float) (m : ℕ) → Going room ps rings j hand m → Subtracted room ps (rings_of j rings) hand m
going_end room ps rings j hand m g =
    record {
      size = g.size;
      count = sym (length-rings m hand) ∙ ap length g.same ∙ sym (pick_true (in_hand room ps (rings_of j rings)) (length (subtract_all ps (rings_of j rings))) (room + 1) g.ok);
      same = λ _. g.same;
    }

-- where no ring leaves more than so many pieces, no more are left
pub in-hand-few : (most : ℕ) (ps ks : List Ring) → length ps ≤ most → in_hand most ps ks ≡ true → length (subtract_all ps ks) ≤ most
unfolding subtract_all in_hand
in-hand-few most ps [] h e = h
in-hand-few most ps (k ∷ ks) h e = go (leb (length (subtract ps k)) most) refl e (in-hand-few most (subtract ps k) ks)
  where
    go : (b : Bool) → leb (length (subtract ps k)) most ≡ b → (b && in_hand most (subtract ps k) ks) ≡ true
        → (length (subtract ps k) ≤ most → in_hand most (subtract ps k) ks ≡ true → length (subtract_all (subtract ps k) ks) ≤ most) → length (subtract_all (subtract ps k) ks) ≤ most
    go true f e r = r (leb-true (length (subtract ps k)) most f) e
    go false f e r = absurd (true≢false (sym e))

-- what is never more than few is never more than many
pub in-hand-more : (few many : ℕ) (ps ks : List Ring) → few ≤ many → in_hand few ps ks ≡ true → in_hand many ps ks ≡ true
unfolding in_hand
in-hand-more few many ps [] h e = refl
in-hand-more few many ps (k ∷ ks) h e = go (leb (length (subtract ps k)) few) refl e (in-hand-more few many (subtract ps k) ks h)
  where
    go : (b : Bool) → leb (length (subtract ps k)) few ≡ b → (b && in_hand few (subtract ps k) ks) ≡ true
        → (in_hand few (subtract ps k) ks ≡ true → in_hand many (subtract ps k) ks ≡ true) → (leb (length (subtract ps k)) many && in_hand many (subtract ps k) ks) ≡ true
    go true f e r = ap₂ (λ (s t : Bool). s && t) (le-leb (length (subtract ps k)) many (let l = leb-true (length (subtract ps k)) few f in omega arith)) (r e)
    go false f e r = absurd (true≢false (sym e))

-- ---- one ring less all rings
module _ (room : ℕ) (h : 1 ≤ room) (c : Ring) (hand : List Float) (n : ℕ) (i : Holds room hand n (kept c)) where
  pub one-few : n ≤ room
  one-few = let f = i.count in let g = kept-few c in omega arith

  pub one-cut : (ks : List Ring) (ys : List Float) (r : Cut) → CutsAll room (rings_of n hand) ks ys r → CutsAll room (kept c) ks ys r
  one-cut ks ys r s = subst (λ (l : List Ring). CutsAll room l ks ys r) (i.same one-few) s
