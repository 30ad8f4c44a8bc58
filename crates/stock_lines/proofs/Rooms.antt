-- What a line leaves in the lent room. Assumes nothing.
use Rattle.std.proofs.Common.{◌≡◌, ℕ, suc, ◌+◌, ◌*◌, ◌/◌, ◌<◌, ◌≤◌, Bool, true, false, T, leb, List, [], ◌∷◌, length, set, sym, refl, ap, ◌∙◌, subst, arith, le-ltb, lt-ltb, eq-eqb, ne_eqb, le-leb, leb-false, leb-true, Option, Some, None}
use mathlib.Core.Bool.{false≢true}
use lib.Ieee.{Float}
use borrow.Author.Tests.{lt-leb}
use Rattle.floats.specs.Pick.{pick_true, pick-false}
use Rattle.text.specs.Same.{same_bytes}
use Rattle.stock_lines.specs.declared.form.Four.{Four}
use Rattle.stock_lines.specs.declared.room.Took.TheVariants.{Cell, Ring, End, NoLine}
use Rattle.stock_lines.specs.Form.{form_of, line_of, four, four_of, cell_prefix, end_text}
use Rattle.stock_lines.specs.Room.{kept, taken, stored, cell_at, ring_at, ring_turn, end_turn, took_of, rings_left_after}

module _ (limit : ℕ) (l : List Float) (k : ℕ) where
  pub kept-writes : (a b c d : Float) → k < limit → k < length l / 4
      → set (set (set (set l (4 * k) a) (4 * k + 1) b) (4 * k + 2) c) (4 * k + 3) d ≡ kept limit l k (a ∷ b ∷ c ∷ d ∷ [])
  unfolding kept
  kept-writes a b c d h g =
      let i : ℕ = 4 * k in
      let e1 : i + 1 ≡ suc i = omega arith in
      let e2 : i + 2 ≡ suc (suc i) = omega arith in
      let e3 : i + 3 ≡ suc (suc (suc i)) = omega arith in
      at i (i + 1) (suc i) (i + 2) (suc (suc i)) (i + 3) (suc (suc (suc i))) e1 e2 e3
      ∙ sym (pick_true _ _ _ (lt-ltb _ _ h) ∙ pick_true _ _ _ (lt-ltb _ _ g))
    where
      at : (i p p' q q' r r' : ℕ) → p ≡ p' → q ≡ q' → r ≡ r' → set (set (set (set l i a) p b) q c) r d ≡ set (set (set (set l i a) p' b) q' c) r' d
      at i p p' q q' r r' e f g = λ j. set (set (set (set l i a) (e j) b) (f j) c) (g j) d

  pub kept-short : (xs : List Float) → k < limit → length l / 4 ≤ k → l ≡ kept limit l k xs
  unfolding kept
  kept-short xs h g = sym (pick_true _ _ _ (lt-ltb _ _ h) ∙ pick-false _ _ _ (le-ltb _ _ g))

  pub kept-past : (xs : List Float) → limit ≤ k → l ≡ kept limit l k xs
  unfolding kept
  kept-past xs h = sym (pick-false _ _ _ (le-ltb _ _ h))

  pub stored-numbers : (f : Option Four) (x : Four) → f ≡ Some x → kept limit l k (x.a ∷ x.b ∷ x.c ∷ x.d ∷ []) ≡ stored limit l k f
  unfolding stored
  stored-numbers f x e = sym (ap (stored limit l k) e)

  pub stored-none : (f : Option Four) → f ≡ None → l ≡ stored limit l k f
  unfolding stored
  stored-none f e = sym (ap (stored limit l k) e)

  -- what holds no numbers stores none
  pub stored_other : (f : Option Four) → taken f ≡ false → stored limit l k f ≡ l
  unfolding stored taken
  stored_other (Some x) e = absurd (subst T e tt)
  stored_other None e = refl

pub taken-numbers : (f : Option Four) (x : Four) → f ≡ Some x → true ≡ taken f
unfolding taken
taken-numbers f x e = sym (ap taken e)

pub taken_none : (f : Option Four) → f ≡ None → false ≡ taken f
unfolding taken
taken_none f e = sym (ap taken e)

module _ (form n m : ℕ) (s : List ℕ) where
  pub cell-turn : m ≡ 0 → n < (form_of form).most → four_of (line_of (cell_prefix form n) 4 s) ≡ cell_at form n m s
  unfolding cell_at
  cell-turn e h = sym (pick_true _ _ _ (eq-eqb _ _ e) ∙ pick_true _ _ _ (lt-ltb _ _ h))

  pub cell-over : m ≡ 0 → (form_of form).most ≤ n → None ≡ cell_at form n m s
  unfolding cell_at
  cell-over e h = sym (pick_true _ _ _ (eq-eqb _ _ e) ∙ pick-false _ _ _ (le-ltb _ _ h))

  pub cell-after-ring : (m ≡ 0 → ⊥) → None ≡ cell_at form n m s
  unfolding cell_at
  cell-after-ring e = sym (pick-false _ _ _ (ne_eqb _ _ e))

  pub ring-turn : (form_of form).least ≤ n → ring_at s ≡ ring_turn form n s
  unfolding ring_turn
  ring-turn h = sym (pick_true _ _ _ (le-leb _ _ h))

  pub ring-early : n < (form_of form).least → None ≡ ring_turn form n s
  unfolding ring_turn
  ring-early h = sym (pick-false _ _ _ (lt-leb _ _ h))

  pub end-turn : (b : ℕ) → (form_of form).least ≤ n → same_bytes s (end_text b) ≡ end_turn form n b s
  unfolding end_turn
  end-turn b h = sym (pick_true _ _ _ (le-leb _ _ h))

  pub end-early : (b : ℕ) → n < (form_of form).least → false ≡ end_turn form n b s
  unfolding end_turn
  end-early b h = sym (pick-false _ _ _ (lt-leb _ _ h))

  -- what is a ring's line in its turn stands behind enough cell lines
  pub ring-turned : (x y z w : Float) → ring_turn form n s ≡ four x y z w → ((form_of form).least ≤ n) × (ring_at s ≡ four x y z w)
  ring-turned x y z w e = by (leb (form_of form).least n) refl
    where
      by : (t : Bool) → leb (form_of form).least n ≡ t → ((form_of form).least ≤ n) × (ring_at s ≡ four x y z w)
      by true f = let h = leb-true _ _ f in (h, ring-turn h ∙ e)
      by false f = let g : ◌≡◌ {A = Option Four} None (four x y z w) = ring-early (leb-false _ _ f) ∙ e in let z : ◌≡◌ {A = ℕ} 0 1 = cc in absurd (omega arith)

  -- and so the last line
  pub end-turned : (b : ℕ) → end_turn form n b s ≡ true → ((form_of form).least ≤ n) × (same_bytes s (end_text b) ≡ true)
  end-turned b e = by (leb (form_of form).least n) refl
    where
      by : (t : Bool) → leb (form_of form).least n ≡ t → ((form_of form).least ≤ n) × (same_bytes s (end_text b) ≡ true)
      by true f = let h = leb-true _ _ f in (h, end-turn b h ∙ e)
      by false f = absurd (false≢true (end-early b (leb-false _ _ f) ∙ e))

  pub took-cell : (b : ℕ) → taken (cell_at form n m s) ≡ true → Cell ≡ took_of form n m b s
  unfolding took_of
  took-cell b e = sym (pick_true _ _ _ e)

  pub took-ring : (b : ℕ) → taken (cell_at form n m s) ≡ false → taken (ring_turn form n s) ≡ true → Ring ≡ took_of form n m b s
  unfolding took_of
  took-ring b e f = sym (pick-false _ _ _ e ∙ pick_true _ _ _ f)

  pub took-end : (b : ℕ) → taken (cell_at form n m s) ≡ false → taken (ring_turn form n s) ≡ false → end_turn form n b s ≡ true → End ≡ took_of form n m b s
  unfolding took_of
  took-end b e f g = sym (pick-false _ _ _ e ∙ pick-false _ _ _ f ∙ pick_true _ _ _ g)

  pub took-none : (b : ℕ) → taken (cell_at form n m s) ≡ false → taken (ring_turn form n s) ≡ false → end_turn form n b s ≡ false → NoLine ≡ took_of form n m b s
  unfolding took_of
  took-none b e f g = sym (pick-false _ _ _ e ∙ pick-false _ _ _ f ∙ pick-false _ _ _ g)

  pub rings-cell : (l : List Float) → taken (cell_at form n m s) ≡ true → l ≡ rings_left_after form n m s l
  unfolding rings_left_after
  rings-cell l e = sym (pick_true _ _ _ e)

  pub rings-other : (l : List Float) → taken (cell_at form n m s) ≡ false → stored 256 l m (ring_turn form n s) ≡ rings_left_after form n m s l
  unfolding rings_left_after
  rings-other l e = sym (pick-false _ _ _ e)

  -- a line that is not of the form leaves the cells
  pub refused-cells : (b : ℕ) (l : List Float) → took_of form n m b s ≡ NoLine → stored (form_of form).most l n (cell_at form n m s) ≡ l
  refused-cells b l e = by (taken (cell_at form n m s)) refl
    where
      by : (t : Bool) → taken (cell_at form n m s) ≡ t → stored (form_of form).most l n (cell_at form n m s) ≡ l
      by false f = stored_other (form_of form).most l n (cell_at form n m s) f
      by true f = let g : Cell ≡ NoLine = took-cell b f ∙ e in let z : ◌≡◌ {A = ℕ} 0 1 = cc in absurd (omega arith)

  -- and the rings
  pub refused-rings : (b : ℕ) (l : List Float) → took_of form n m b s ≡ NoLine → rings_left_after form n m s l ≡ l
  refused-rings b l e = by (taken (cell_at form n m s)) refl (taken (ring_turn form n s)) refl
    where
      by : (t : Bool) → taken (cell_at form n m s) ≡ t → (u : Bool) → taken (ring_turn form n s) ≡ u → rings_left_after form n m s l ≡ l
      by true f u g = sym (rings-cell l f)
      by false f true g = let h : Ring ≡ NoLine = took-ring b f g ∙ e in let z : ◌≡◌ {A = ℕ} 0 1 = cc in absurd (omega arith)
      by false f false g = sym (rings-other l f) ∙ stored_other 256 l m (ring_turn form n s) g
