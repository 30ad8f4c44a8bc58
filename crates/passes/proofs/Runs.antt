-- Targets and runs of bins, one bin on. Assumes nothing.
use mathlib.Core.Path.{◌≡◌, refl, sym, ap, ◌∙◌}
use mathlib.Core.Bool.{Bool, true, false, not, ◌&&◌, ◌||◌, and-true, and-false}
use mathlib.Core.List.{List, [], ◌∷◌, ◌++◌, append-nil}
use Prim.Native.Nat.{ℕ, ◌+◌, ◌*◌, ◌≤◌}
use native.Mathlib.Numerals.{add-one}
use native.Mathlib.Omega.{arith}
use lib.ListN.{length}
use lib.Ieee.{Float, le}
use borrow.Author.Tests.{eq-eqb, ne_eqb}
use Rattle.floats.specs.Pick.{pick, pick_true, pick-false}
use Rattle.stock.specs.declared.TurnStockSpec.{TurnStockSpec}
use Rattle.passes.specs.Check.{target_good, targets_to, targets_good}
use Rattle.passes.specs.declared.propose.Level.{Level}
use Rattle.passes.specs.Propose.{Open, pass_start, pass_end, level_over, levels_over, last_of_run, stands_over, with_bin, open_to}

-- one bin's target more is good
pub targets-more : (ts : List Float) (i : ℕ) → targets_to ts (i + 1) ≡ (targets_to ts i && target_good ts i)
unfolding targets_to
targets-more ts i = ap (targets_to ts) (add-one i)

-- another number of them
pub targets-not : (ts : List Float) (n : ℕ) → (length ts ≡ 2 * n → ⊥) → false ≡ targets_good ts n
targets-not ts n h = simp (ne_eqb (length ts) (2 * n) h)

-- two for each bin
pub targets-are : (ts : List Float) (n m : ℕ) (r : Bool) → m ≡ n → length ts ≡ 2 * n → r ≡ targets_to ts m → r ≡ targets_good ts n
targets-are ts n m r e h q = q ∙ ap (targets_to ts) e ∙ sym (simp (eq-eqb (length ts) (2 * n) h))

-- ---- the open run after the first i bins
pub record Reached (o : Open) (i first : ℕ) (high : Bool) : Type 0 where
  pub below : first ≤ i
  pub starts : first ≡ o.first
  pub stands : high ≡ o.high

module _ (s : TurnStockSpec) (n : ℕ) (ts : List Float) (rn : Float) (cs : List Float) where
  -- of no bin
  pub reached-none : Reached (open_to s n ts rn cs 0) 0 0 false
  unfolding open_to
  reached-none = record { below = omega arith; starts = refl; stands = refl }

  -- with one bin more, where `ends` says whether it is the last of its run and `over` whether some bin of it stands over its target
  module _ (i first : ℕ) (high over ends : Bool) (g : Reached (open_to s n ts rn cs i) i first high) (eo : over ≡ (high || stands_over ts cs i)) (ee : ends ≡ last_of_run ts n i) where
    next : open_to s n ts rn cs (i + 1) ≡ with_bin s n ts rn cs (open_to s n ts rn cs i) i
    unfolding open_to
    next = ap (open_to s n ts rn cs) (add-one i)

    high_is : over ≡ ((open_to s n ts rn cs i).high || stands_over ts cs i)
    high_is = eo ∙ ap (λ (h : Bool). h || stands_over ts cs i) g.stands

    -- it is the last
    ended : ends ≡ true → open_to s n ts rn cs (i + 1) ≡ record { first = i + 1; high = false; passes = (open_to s n ts rn cs i).passes ++ pick over (levels_over s n ts rn first i) [] }
    unfolding with_bin
    ended t = next ∙ rw (high_is, g.starts) (pick_true _ _ _ (sym ee ∙ t))

    -- it is not
    goes : ends ≡ false → open_to s n ts rn cs (i + 1) ≡ record { first = first; high = over; passes = (open_to s n ts rn cs i).passes }
    unfolding with_bin
    goes t = next ∙ rw (high_is, g.starts) (pick-false _ _ _ (sym ee ∙ t))

    pub reached-next : (first' : ℕ) → first' ≡ pick ends (i + 1) first → Reached (open_to s n ts rn cs (i + 1)) (i + 1) first' (over && not ends)
    reached-next first' ef = go ends refl
      where
        go : (t : Bool) → ends ≡ t → Reached (open_to s n ts rn cs (i + 1)) (i + 1) first' (over && not ends)
        go true e = let f = ef ∙ pick_true ends (i + 1) first e in rw (ended e, f, e) (record { below = omega arith; starts = refl; stands = and-false over })
        go false e = let f = ef ∙ pick-false ends (i + 1) first e in let b = g.below in rw (goes e, f, e) (record { below = omega arith; starts = refl; stands = and-true over })

    -- the pass of the run, where it ends and stands over its target
    due-is : (open_to s n ts rn cs (i + 1)).passes ≡ (open_to s n ts rn cs i).passes ++ pick ((over && ends) && le (pass_start s ts rn first) (pass_end s n ts rn i)) (level_over s n ts rn first i ∷ []) []
    due-is = go ends refl over refl
      where
        go : (t : Bool) → ends ≡ t → (u : Bool) → over ≡ u → (open_to s n ts rn cs (i + 1)).passes ≡ (open_to s n ts rn cs i).passes ++ pick ((over && ends) && le (pass_start s ts rn first) (pass_end s n ts rn i)) (level_over s n ts rn first i ∷ []) []
        go true e true f = ap (λ (o : Open). o.passes) (ended e) ∙ rw (e, f) (ap (λ (m : List Level). (open_to s n ts rn cs i).passes ++ m) (pick_true true (levels_over s n ts rn first i) [] refl))
        go true e false f = ap (λ (o : Open). o.passes) (ended e) ∙ rw (e, f) (ap (λ (m : List Level). (open_to s n ts rn cs i).passes ++ m) (pick-false false _ _ refl ∙ sym (pick-false false _ _ refl)))
        go false e u f =
            let no : ((over && ends) && le (pass_start s ts rn first) (pass_end s n ts rn i)) ≡ false = rw (e, and-false over) in
            ap (λ (o : Open). o.passes) (goes e) ∙ sym (ap (λ (m : List Level). (open_to s n ts rn cs i).passes ++ m) (pick-false _ (level_over s n ts rn first i ∷ []) [] no) ∙ append-nil (open_to s n ts rn cs i).passes)

    pub passes-next : (p : Level) → p ≡ level_over s n ts rn first i → (open_to s n ts rn cs (i + 1)).passes ≡ (open_to s n ts rn cs i).passes ++ pick ((over && ends) && le p.a p.b) (p ∷ []) []
    passes-next p ep = rw ep due-is
