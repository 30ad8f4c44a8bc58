-- Tests and counts of a list of rings that go on from ring to ring, as a loop over the lent numbers makes them. Assumes nothing.
use mir.Val.{bool_byte}
use Prim.Native.Nat.{ℕ, zero, suc, ◌+◌, ◌≤◌}
use native.Mathlib.Nat.{eq-or-lt_of_le}
use native.Mathlib.Omega.{arith}
use mathlib.Core.Path.{◌≡◌, refl, sym, ◌∙◌, ap, ap₂, subst}
use mathlib.Core.Logic.{inl, inr}
use mathlib.Core.Bool.{Bool, true, false, ◌&&◌, ◌||◌, and-true, and_assoc}
use mathlib.Core.List.{List, [], ◌∷◌, ◌++◌}
use lib.Ieee.{Float, le}
use Rattle.floats.specs.Pick.{pick}
use Rattle.rings.specs.declared.Ring.{Ring}
use Rattle.rings.specs.Ring.{filled, apart, clip}
use Rattle.rings.specs.Store.{ring_at, rings_of, ring_fits, apart_all, store_fits, finite_ring, all_good, raised_by}
use Rattle.rings.proofs.Flat.{rings-next}

-- ---- any test with such a law
module _ (F : List Ring → Bool) (G : List Ring → Ring → Bool) (law : (l : List Ring) (q : Ring) → F (l ++ (q ∷ [])) ≡ (F l && G l q)) where
  -- the next ring's part, where the ring is known
  pub goes_on : (xs : List Float) (j : ℕ) (q : Ring) (ok more : Bool) → ok ≡ F (rings_of j xs) → q ≡ ring_at xs j → more ≡ G (rings_of j xs) q → (ok && more) ≡ F (rings_of (j + 1) xs)
  goes_on xs j q ok more a e b =
      ap₂ (λ (s t : Bool). s && t) a (b ∙ ap (G (rings_of j xs)) e) ∙ sym (ap F (rings-next xs j) ∙ law (rings_of j xs) (ring_at xs j))

  -- once false it stays so
  pub stays-false : (xs : List Float) (j c : ℕ) → j ≤ c → F (rings_of j xs) ≡ false → F (rings_of c xs) ≡ false
  unfolding rings_of
  stays-false xs j c h f = go c h
    where
      go : (c : ℕ) → j ≤ c → F (rings_of c xs) ≡ false
      go zero h = let z : j ≡ 0 = omega arith in subst (λ (n : ℕ). F (rings_of n xs) ≡ false) z f
      go (suc c) h =
          elim (eq-or-lt_of_le h) [
            | inl p ↦ subst (λ (n : ℕ). F (rings_of n xs) ≡ false) p f
            | inr q ↦ law (rings_of c xs) (ring_at xs c) ∙ ap (λ (b : Bool). b && G (rings_of c xs) (ring_at xs c)) (go c (omega arith))
          ]

-- ---- the tests
pub apart_all-snoc : (k : Ring) (l : List Ring) (p : Ring) → apart_all (l ++ (p ∷ [])) k ≡ (apart_all l k && apart p k)
unfolding apart_all
apart_all-snoc k [] p = and-true (apart p k)
apart_all-snoc k (q ∷ l) p = ap (λ (b : Bool). apart q k && b) (apart_all-snoc k l p) ∙ sym (and_assoc (apart q k) (apart_all l k) (apart p k))

-- apart is the same either way round
pub apart-turns : (p k : Ring) → apart p k ≡ apart k p
apart-turns p k = go (le p.z1 k.z0) (le k.z1 p.z0) (le p.r1 k.r0) (le k.r1 p.r0)
  where
    go : (a b c d : Bool) → (a || b || c || d) ≡ (b || a || d || c)
    go true true c d = refl
    go true false c d = refl
    go false true c d = refl
    go false false true true = refl
    go false false true false = refl
    go false false false true = refl
    go false false false false = refl

pub store_fits-snoc : (e : Ring) (l : List Ring) (q : Ring) → store_fits e (l ++ (q ∷ [])) ≡ (store_fits e l && (ring_fits e q && apart_all l q))
unfolding store_fits apart_all
store_fits-snoc e [] q = and-true (ring_fits e q && true)
store_fits-snoc e (p ∷ l) q =
    ap₂ (λ (s t : Bool). ring_fits e p && s && t) (apart_all-snoc p l q) (store_fits-snoc e l q) ∙ ap (λ (b : Bool). ring_fits e p && (apart_all l p && b) && (store_fits e l && (ring_fits e q && apart_all l q))) (apart-turns q p)
    ∙ go (ring_fits e p) (apart_all l p) (apart p q) (store_fits e l) (ring_fits e q) (apart_all l q)
  where
    go : (a b c d f g : Bool) → (a && (b && c) && (d && (f && g))) ≡ ((a && b && d) && (f && (c && g)))
    go false b c d f g = refl
    go true false c d f g = refl
    go true true c false f g = at c
      where
        at : (c : Bool) → (c && false) ≡ false
        at true = refl
        at false = refl
    go true true true true f g = refl
    go true true false true true g = refl
    go true true false true false g = refl

pub all_good-snoc : (l : List Ring) (q : Ring) → all_good (l ++ (q ∷ [])) ≡ (all_good l && (finite_ring q && filled q))
unfolding all_good
all_good-snoc [] q = and-true (finite_ring q && filled q)
all_good-snoc (p ∷ l) q =
    ap (λ (b : Bool). finite_ring p && filled p && b) (all_good-snoc l q) ∙ sym (and_assoc (finite_ring p && filled p) (all_good l) (finite_ring q && filled q))

-- ---- the count
pub raised_by-snoc : (e : Ring) (l : List Ring) (q : Ring) → raised_by e (l ++ (q ∷ [])) ≡ raised_by e l + pick (filled (clip e q)) 1 0
unfolding raised_by
raised_by-snoc e [] q = omega arith
raised_by-snoc e (p ∷ l) q = let h = raised_by-snoc e l q in omega arith

pub raised-next : (e : Ring) (xs : List Float) (i n m : ℕ) (q c : Ring) (t : Bool) → n ≡ raised_by e (rings_of i xs) → q ≡ ring_at xs i → c ≡ clip e q → t ≡ filled c → m ≡ pick t 1 0
    → n + m ≡ raised_by e (rings_of (i + 1) xs)
raised-next e xs i n m q c t a b f h k =
    ap₂ ◌+◌ a (k ∙ ap (λ (s : Bool). pick s 1 0) (h ∙ ap filled (f ∙ ap (clip e) b))) ∙ sym (ap (raised_by e) (rings-next xs i) ∙ raised_by-snoc e (rings_of i xs) (ring_at xs i))

-- a test as a number
pub one_or_none : (t : Bool) → bool_byte t ≡ pick t 1 0
unfolding pick
one_or_none true = refl
one_or_none false = refl

pub one_at_most : (m : ℕ) (t : Bool) → m ≡ pick t 1 0 → m ≤ 1
unfolding pick
one_at_most m true e = omega arith
one_at_most m false e = omega arith
