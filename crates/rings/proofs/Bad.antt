-- The place of the first ring that is not good: none where all are, and of one ring more. Assumes nothing.
use Rattle.std.specs.Prelude.{Option, None, Some}
use mathlib.Core.Path.{◌≡◌, refl, sym, ap, ap₂, ◌∙◌}
use mathlib.Core.Logic.{inl, inr}
use mathlib.Core.Bool.{Bool, true, false, ◌&&◌, false≢true}
use mathlib.Core.List.{List, [], ◌∷◌, ◌++◌}
use Prim.Native.Nat.{ℕ, zero, suc, ◌+◌, ◌/◌, ◌%◌, ◌≤◌}
use native.Mathlib.Nat.{eq-or-lt_of_le}
use native.Mathlib.Omega.{arith}
use lib.Dec.{eqb}
use lib.ListN.{length}
use lib.Ieee.{Float}
use Rattle.refusals.specs.Paper.{first_of, place_or}
use Rattle.floats.specs.Pick.{pick, pick_true, pick-false}
use Rattle.stock.proofs.Count.{and_both}
use Rattle.stock.proofs.Places.{Found, found-by, pick_first, none-some}
use Rattle.rings.specs.declared.Ring.{Ring}
use Rattle.rings.specs.Store.{ring_at, rings_of, good_ring, bad_from, bad_ring, all_good, rings_good}
use Rattle.rings.proofs.Flat.{rings-next, length-rings}

-- ---- all are good, or one is not

good_none : (k : ℕ) (l : List Ring) → all_good l ≡ true → bad_from k l ≡ None
unfolding all_good bad_from
good_none k [] e = refl
good_none k (q ∷ l) e = let b = and_both (good_ring q) (all_good l) e in pick_true _ _ _ b.0 ∙ good_none (suc k) l b.1

bad-found : (k : ℕ) (l : List Ring) → all_good l ≡ false → Found (bad_from k l)
unfolding all_good bad_from
bad-found k [] e = absurd (false≢true (sym e))
bad-found k (q ∷ l) e = found-by k (good_ring q) (all_good l) (bad_from (suc k) l) e (bad-found (suc k) l)

module _ (xs : List Float) where
  -- no ring is bad
  pub rings-none : rings_good xs ≡ true → bad_ring xs ≡ None
  unfolding rings_good bad_ring
  rings-none e =
      let b = and_both (eqb (length xs % 4) 0) (all_good (rings_of (length xs / 4) xs)) e in
      ap₂ first_of (good_none 0 (rings_of (length xs / 4) xs) b.1) (pick_true (eqb (length xs % 4) 0) None (Some (length xs / 4)) b.0)

  -- the first that is, or the one that is broken off
  pub rings-bad : (r : ℕ) → rings_good xs ≡ false → r ≡ place_or (length xs / 4) (bad_from 0 (rings_of (length xs / 4) xs)) → bad_ring xs ≡ Some r
  unfolding rings_good bad_ring
  rings-bad r e p = go (all_good (rings_of (length xs / 4) xs)) refl
    where
      broken : (t g : Bool) → g ≡ true → (t && g) ≡ false → t ≡ false
      broken true g q f = absurd (false≢true (sym f ∙ q))
      broken false g q f = refl

      go : (t : Bool) → all_good (rings_of (length xs / 4) xs) ≡ t → first_of (bad_from 0 (rings_of (length xs / 4) xs)) (pick (eqb (length xs % 4) 0) None (Some (length xs / 4))) ≡ Some r
      go true q =
          let n = good_none 0 (rings_of (length xs / 4) xs) q in
          ap₂ first_of n (pick-false (eqb (length xs % 4) 0) None (Some (length xs / 4)) (broken (eqb (length xs % 4) 0) (all_good (rings_of (length xs / 4) xs)) q e))
          ∙ ap Some (sym (p ∙ ap (place_or (length xs / 4)) n))
      go false q =
          let f = bad-found 0 (rings_of (length xs / 4) xs) q in
          ap (λ (o : Option ℕ). first_of o (pick (eqb (length xs % 4) 0) None (Some (length xs / 4)))) f.is
          ∙ ap Some (sym (p ∙ ap (place_or (length xs / 4)) f.is))

  -- and where none is found all are good
  pub none-good : bad_ring xs ≡ None → rings_good xs ≡ true
  none-good e = go (rings_good xs) refl
    where
      go : (t : Bool) → rings_good xs ≡ t → t ≡ true
      go true q = refl
      go false q = absurd (none-some _ (sym e ∙ rings-bad (place_or (length xs / 4) (bad_from 0 (rings_of (length xs / 4) xs))) q refl))

-- ---- one ring more

bad-snoc : (k p : ℕ) (l : List Ring) (q : Ring) → p ≡ k + length l → bad_from k (l ++ (q ∷ [])) ≡ first_of (bad_from k l) (pick (good_ring q) None (Some p))
unfolding bad_from
bad-snoc k p [] q h =
    let e : k ≡ p = omega arith in
    ap (λ (m : ℕ). pick (good_ring q) None (Some m)) e
bad-snoc k p (r ∷ l) q h = pick_first k (good_ring r) _ _ _ (bad-snoc (suc k) p l q (omega arith))

bad_more : (xs : List Float) (i : ℕ) → bad_from 0 (rings_of i xs ++ (ring_at xs i ∷ [])) ≡ first_of (bad_from 0 (rings_of i xs)) (pick (good_ring (ring_at xs i)) None (Some i))
bad_more xs i = let h = length-rings i xs in bad-snoc 0 i (rings_of i xs) (ring_at xs i) (omega arith)

module _ (xs : List Float) where
  pub bad-next : (i : ℕ) → bad_from 0 (rings_of (i + 1) xs) ≡ first_of (bad_from 0 (rings_of i xs)) (pick (good_ring (ring_at xs i)) None (Some i))
  bad-next i = ap (bad_from 0) (rings-next xs i) ∙ bad_more xs i

  -- one that is found is that of any longer list
  pub bad-stops : (i c p : ℕ) → i ≤ c → bad_from 0 (rings_of i xs) ≡ Some p → bad_from 0 (rings_of c xs) ≡ Some p
  unfolding rings_of
  bad-stops i zero p h f = let z : i ≡ 0 = omega arith in ap (λ (n : ℕ). bad_from 0 (rings_of n xs)) (sym z) ∙ f
  bad-stops i (suc c) p h f =
      elim (eq-or-lt_of_le h) [
        | inl q ↦ ap (λ (n : ℕ). bad_from 0 (rings_of n xs)) (sym q) ∙ f
        | inr q ↦ bad_more xs c ∙ ap (λ (o : Option ℕ). first_of o (pick (good_ring (ring_at xs c)) None (Some c))) (bad-stops i c p (omega arith) f)
      ]
