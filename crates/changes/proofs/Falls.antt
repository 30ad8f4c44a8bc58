-- The place of the first index that is not above the one before it: where the indices do not rise, and of one change more. Assumes nothing.
use Rattle.std.specs.Prelude.{None, Some}
use mathlib.Core.Path.{◌≡◌, refl, sym, ap, ◌∙◌}
use mathlib.Core.Bool.{true, false, false≢true}
use mathlib.Core.List.{List, [], ◌∷◌, ◌++◌, append_assoc}
use Prim.Native.Nat.{ℕ, zero, suc, ◌+◌, ◌-◌, ◌≤◌, ◌<◌}
use native.Mathlib.Numerals.{add-one}
use native.Mathlib.Omega.{arith}
use lib.Dec.{ltb}
use lib.ListN.{length, get_or, length-append}
use lib.Ieee.{Float}
use Rattle.refusals.specs.Paper.{refuses, at, first_of, place_or, demand_none-some}
use Rattle.floats.specs.Pick.{pick, pick_true}
use Rattle.stock.specs.declared.TurnStockSpec.{TurnStockSpec}
use Rattle.stock.specs.declared.TurnChange.{TurnChange}
use Rattle.stock.proofs.Count.{and_both}
use Rattle.stock.proofs.Places.{Found, found-by, pick_first, pick-stops, none-some}
use Rattle.changes.specs.Change.{change_from, changes_from}
use Rattle.changes.specs.Commit.{each_from, fall_after, first_fall, pass_all}
use Rattle.changes.specs.Decide.{rises_after, rises}
use Rattle.changes.proofs.Passed.{further}

-- ---- indices rise where none falls, and fall where they do not rise

after_none : (k i : ℕ) (l : List TurnChange) → rises_after i l ≡ true → fall_after k i l ≡ None
unfolding rises_after fall_after
after_none k i [] e = refl
after_none k i (c ∷ l) e =
    let b = and_both (ltb i c.index) (rises_after c.index l) e in
    pick_true _ _ _ b.0 ∙ after_none (suc k) c.index l b.1

pub rises-none : (l : List TurnChange) → rises l ≡ true → first_fall l ≡ None
unfolding rises first_fall
rises-none [] e = refl
rises-none (c ∷ l) e = after_none 1 c.index l e

after-some : (k i : ℕ) (l : List TurnChange) → rises_after i l ≡ false → Found (fall_after k i l)
unfolding rises_after fall_after
after-some k i [] e = absurd (false≢true (sym e))
after-some k i (c ∷ l) e = found-by k (ltb i c.index) (rises_after c.index l) (fall_after (suc k) c.index l) e (after-some (suc k) c.index l)

pub falls-some : (l : List TurnChange) → rises l ≡ false → Found (first_fall l)
unfolding rises first_fall
falls-some [] e = absurd (false≢true (sym e))
falls-some (c ∷ l) e = after-some 1 c.index l e

-- 7 at that place
pub falls_at : (s : TurnStockSpec) (n : ℕ) (cs : List Float) (l : List TurnChange) (k r : ℕ) → rises l ≡ false → r ≡ place_or k (first_fall l) → refuses (at 7 r) ≡ pass_all s n cs l
unfolding pass_all
falls_at s n cs l k r e p =
    let f = falls-some l e in
    sym (demand_none-some (first_fall l) 7 r (each_from s n cs 0 l) (f.is ∙ ap Some (sym (p ∙ ap (place_or k) f.is))))

-- ---- one change more

after_next : (k i p : ℕ) (l : List TurnChange) (c d : TurnChange) → p ≡ k + length l + 1 → fall_after k i (l ++ (c ∷ d ∷ [])) ≡ first_of (fall_after k i (l ++ (c ∷ []))) (pick (ltb c.index d.index) None (Some p))
unfolding fall_after
after_next k i p [] c d h =
    let e : suc k ≡ p = omega arith in
    pick_first k (ltb i c.index) _ None _ (ap (λ (m : ℕ). pick (ltb c.index d.index) None (Some m)) e)
after_next k i p (e ∷ l) c d h = pick_first k (ltb i e.index) _ _ _ (after_next (suc k) e.index p l c d (omega arith))

first_next : (p : ℕ) (l : List TurnChange) (c d : TurnChange) → p ≡ length l + 1 → first_fall (l ++ (c ∷ d ∷ [])) ≡ first_of (first_fall (l ++ (c ∷ []))) (pick (ltb c.index d.index) None (Some p))
unfolding first_fall fall_after
first_next p [] c d h =
    let e : 1 ≡ p = omega arith in
    ap (λ (m : ℕ). pick (ltb c.index d.index) None (Some m)) e
first_next p (e ∷ l) c d h = after_next 1 e.index p l c d (omega arith)

module _ (is : List ℕ) (xs : List Float) where
  pub from-length : (k : ℕ) → length (changes_from is xs k) ≡ k
  unfolding changes_from
  from-length zero = refl
  from-length (suc k) = let h = from-length k in length-append (changes_from is xs k) (change_from is xs k ∷ []) ∙ omega arith

  -- one change, or none
  pub fall-one : (k : ℕ) → k ≤ 1 → first_fall (changes_from is xs k) ≡ None
  unfolding first_fall fall_after changes_from
  fall-one zero h = refl
  fall-one (suc zero) h = refl
  fall-one (suc (suc k)) h = absurd (omega arith)

  pub fall-next : (i : ℕ) → 0 < i → first_fall (changes_from is xs (i + 1)) ≡ first_of (first_fall (changes_from is xs i)) (pick (ltb (get_or is (i - 1) 0) (get_or is i 0)) None (Some i))
  unfolding changes_from
  fall-next zero h = absurd (omega arith)
  fall-next (suc i) h =
      let e : suc i - 1 ≡ i = omega arith in
      let p : suc i ≡ length (changes_from is xs i) + 1 = ap suc (sym (from-length i)) ∙ omega arith in
      ap first_fall (ap (changes_from is xs) (add-one (suc i)) ∙ append_assoc (changes_from is xs i) (change_from is xs i ∷ []) (change_from is xs (suc i) ∷ []))
      ∙ first_next (suc i) (changes_from is xs i) (change_from is xs i) (change_from is xs (suc i)) p
      ∙ ap (λ (j : ℕ). first_of (first_fall (changes_from is xs i ++ (change_from is xs i ∷ []))) (pick (ltb (get_or is j 0) (get_or is (suc i) 0)) None (Some (suc i)))) (sym e)

-- ---- a fall is that of any longer list

after-stops : (k i p : ℕ) (l m : List TurnChange) → fall_after k i l ≡ Some p → fall_after k i (l ++ m) ≡ Some p
unfolding fall_after
after-stops k i p [] m e = absurd (none-some p e)
after-stops k i p (c ∷ l) m e = pick-stops k p (ltb i c.index) _ _ (after-stops (suc k) c.index p l m) e

first_stops : (p : ℕ) (l m : List TurnChange) → first_fall l ≡ Some p → first_fall (l ++ m) ≡ Some p
unfolding first_fall
first_stops p [] m e = absurd (none-some p e)
first_stops p (c ∷ l) m e = after-stops 1 c.index p l m e

pub fall-stops : (is : List ℕ) (xs : List Float) (j k p : ℕ) → j ≤ k → first_fall (changes_from is xs j) ≡ Some p → first_fall (changes_from is xs k) ≡ Some p
fall-stops is xs j k p h e = let o = further is xs j k h in ap first_fall o.is-more ∙ first_stops p (changes_from is xs j) o.rest e
