-- The lines of cells: those of the changes from the first stock to the second, turned about, and none exactly where the cells are equal. Assumes nothing.
use Prim.Native.Nat.{ℕ, zero, suc, ◌*◌, ◌≤◌, ◌<◌}
use native.Mathlib.Nat.{eq-or-lt_of_le}
use native.Mathlib.Omega.{arith}
use mathlib.Core.Path.{◌≡◌, refl, sym, ap, ap₂, ◌∙◌, subst}
use mathlib.Core.Logic.{inl, inr}
use mathlib.Core.Bool.{Bool, true, false, ◌&&◌, ◌||◌, beq}
use mathlib.Core.List.{List, [], ◌∷◌, ◌++◌, append-nil, append_assoc}
use lib.Dec.{eqb}
use lib.ListN.{length, length-append}
use lib.Ieee.{Float, nan, inf, fin, eq, up, down}
use borrow.Author.Tests.{eq-eqb, eqb-true}
use Rattle.floats.specs.Pick.{pick, pick_true, pick-false}
use Rattle.stock.specs.declared.TurnCell.{TurnCell}
use Rattle.stock.specs.declared.TurnChange.{TurnChange}
use Rattle.stock.specs.Cell.{cell_at, same_cell}
use Rattle.changes.specs.Change.{change_at, changes_to}
use Rattle.changes.specs.Difference.{other_cell}
use Rattle.text.specs.Lines.{four_fields}
use Rattle.text.specs.Wrote.{Wrote}
use Rattle.text.proofs.Spelling.{four-long}
use Rattle.text.proofs.Sets.{and_then, retext}
use Rattle.stock_lines.specs.Form.{written_form, cell_prefix, kept_cell_line, fields_text}
use Rattle.stock_lines.proofs.Steps.{cell-short}
use Rattle.lines.specs.File.{joined}
use Rattle.side_by_side.specs.Compared.{cell_text, bin_text, bin_texts}

-- ---- texts joined
pub joined-append : (s t : List (List ℕ)) → joined (s ++ t) ≡ joined s ++ joined t
unfolding joined
joined-append [] t = refl
joined-append (x ∷ s) t = ap (λ (y : List ℕ). x ++ y) (joined-append s t) ∙ sym (append_assoc x (joined s) (joined t))

pub joined-one : (x : List ℕ) → joined (x ∷ []) ≡ x
unfolding joined
joined-one x = append-nil x

pub bins-next : (all : ℕ) (cs ds : List Float) (n : ℕ) → joined (bin_texts all cs ds (suc n)) ≡ joined (bin_texts all cs ds n) ++ bin_text all cs ds n
unfolding bin_texts
bins-next all cs ds n = joined-append (bin_texts all cs ds n) (bin_text all cs ds n ∷ []) ∙ ap (λ (x : List ℕ). joined (bin_texts all cs ds n) ++ x) (joined-one (bin_text all cs ds n))

-- ---- the changes

-- each change: the cell before it and the cell after it
unfoldable pub change_texts : ℕ → List TurnChange → List ℕ
change_texts all [] = []
change_texts all (c ∷ l) = (cell_text all c.index c.before ++ cell_text all c.index c.after) ++ change_texts all l

changes-append : (all : ℕ) (l m : List TurnChange) → change_texts all (l ++ m) ≡ change_texts all l ++ change_texts all m
unfolding change_texts
changes-append all [] m = refl
changes-append all (c ∷ l) m =
    ap (λ (y : List ℕ). (cell_text all c.index c.before ++ cell_text all c.index c.after) ++ y) (changes-append all l m)
    ∙ sym (append_assoc (cell_text all c.index c.before ++ cell_text all c.index c.after) (change_texts all l) (change_texts all m))

bin-change : (all : ℕ) (cs ds : List Float) (i : ℕ) → bin_text all cs ds i ≡ change_texts all (change_at (other_cell ds) cs i)
unfolding bin_text change_at change_texts pick
bin-change all cs ds i = go (same_cell (cell_at cs i) (cell_at ds i))
  where
    c : TurnChange
    c = record { index = i; before = cell_at cs i; after = cell_at ds i }

    go : (t : Bool) → pick t [] (cell_text all i (cell_at cs i) ++ cell_text all i (cell_at ds i)) ≡ change_texts all (pick t [] (c ∷ []))
    go true = refl
    go false = sym (append-nil (cell_text all i (cell_at cs i) ++ cell_text all i (cell_at ds i)))

-- the lines of the bins below n are those of the changes to the second's cells
pub bins-changes : (all : ℕ) (cs ds : List Float) (n : ℕ) → joined (bin_texts all cs ds n) ≡ change_texts all (changes_to (other_cell ds) cs n)
unfolding bin_texts changes_to joined change_texts
bins-changes all cs ds zero = refl
bins-changes all cs ds (suc n) =
    bins-next all cs ds n ∙ ap₂ ◌++◌ (bins-changes all cs ds n) (bin-change all cs ds n) ∙ sym (changes-append all (changes_to (other_cell ds) cs n) (change_at (other_cell ds) cs n))

-- ---- no line

pub no-append : (s t : List ℕ) → s ++ t ≡ [] → (s ≡ []) × (t ≡ [])
no-append [] t e = (refl, e)
no-append (x ∷ s) t e = let z : ◌≡◌ {A = ℕ} 0 1 = cc in absurd (omega arith)

pub bin-silent : (all : ℕ) (cs ds : List Float) (i : ℕ) → same_cell (cell_at cs i) (cell_at ds i) ≡ true → bin_text all cs ds i ≡ []
unfolding bin_text
bin-silent all cs ds i e = pick_true _ _ _ e

pub silent-bin : (all : ℕ) (cs ds : List Float) (i : ℕ) → bin_text all cs ds i ≡ [] → same_cell (cell_at cs i) (cell_at ds i) ≡ true
unfolding bin_text kept_cell_line
silent-bin all cs ds i e = go (same_cell (cell_at cs i) (cell_at ds i)) refl
  where
    go : (t : Bool) → same_cell (cell_at cs i) (cell_at ds i) ≡ t → same_cell (cell_at cs i) (cell_at ds i) ≡ true
    go true h = h
    go false h =
        let f : cell_text all i (cell_at cs i) ++ cell_text all i (cell_at ds i) ≡ [] = sym (pick-false (same_cell (cell_at cs i) (cell_at ds i)) [] (cell_text all i (cell_at cs i) ++ cell_text all i (cell_at ds i)) h) ∙ e in
        let g : cell_text all i (cell_at cs i) ≡ [] = (no-append (cell_text all i (cell_at cs i)) (cell_text all i (cell_at ds i)) f).0 in
        let z : ◌≡◌ {A = ℕ} 0 1 = cc in
        absurd (omega arith)

pub bins-silent : (all : ℕ) (cs ds : List Float) (n : ℕ) → ((i : ℕ) → i < n → same_cell (cell_at cs i) (cell_at ds i) ≡ true) → joined (bin_texts all cs ds n) ≡ []
unfolding bin_texts joined
bins-silent all cs ds zero h = refl
bins-silent all cs ds (suc n) h = bins-next all cs ds n ∙ ap₂ ◌++◌ (bins-silent all cs ds n (λ i k. h i (omega arith))) (bin-silent all cs ds n (h n (omega arith)))

pub silent-bins : (all : ℕ) (cs ds : List Float) (n : ℕ) → joined (bin_texts all cs ds n) ≡ [] → (i : ℕ) → i < n → same_cell (cell_at cs i) (cell_at ds i) ≡ true
silent-bins all cs ds zero e i k = absurd (omega arith)
silent-bins all cs ds (suc n) e i k =
    let h = no-append (joined (bin_texts all cs ds n)) (bin_text all cs ds n) (sym (bins-next all cs ds n) ∙ e) in
    elim (eq-or-lt_of_le (let l : i ≤ n = omega arith in l)) [
      | inl p ↦ subst (λ (j : ℕ). same_cell (cell_at cs j) (cell_at ds j) ≡ true) (sym p) (silent-bin all cs ds n h.1)
      | inr p ↦ silent-bins all cs ds n h.0 i p
    ]

-- ---- turned about

eqb-turns : (a b : ℕ) → eqb a b ≡ eqb b a
eqb-turns a b = go (eqb a b) refl (eqb b a) refl
  where
    go : (s : Bool) → eqb a b ≡ s → (t : Bool) → eqb b a ≡ t → eqb a b ≡ eqb b a
    go true e true f = e ∙ sym f
    go false e false f = e ∙ sym f
    go true e false f =
        let g : eqb b a ≡ true = eq-eqb b a (sym (eqb-true a b e)) in
        let z : ◌≡◌ {A = ℕ} 0 1 = cc in
        absurd (omega arith)
    go false e true f =
        let g : eqb a b ≡ true = eq-eqb a b (sym (eqb-true b a f)) in
        let z : ◌≡◌ {A = ℕ} 0 1 = cc in
        absurd (omega arith)

beq-turns : (s t : Bool) → beq s t ≡ beq t s
beq-turns true true = refl
beq-turns true false = refl
beq-turns false true = refl
beq-turns false false = refl

level-turns : (s t : Bool) (a b : ℕ) → (eqb a b && (beq s t || eqb a 0)) ≡ (eqb b a && (beq t s || eqb b 0))
level-turns s t a b = go (eqb a b) refl
  where
    go : (u : Bool) → eqb a b ≡ u → (eqb a b && (beq s t || eqb a 0)) ≡ (eqb b a && (beq t s || eqb b 0))
    go true e = ap₂ ◌&&◌ (eqb-turns a b) (ap₂ ◌||◌ (beq-turns s t) (ap (λ (n : ℕ). eqb n 0) (eqb-true a b e)))
    go false e =
        ap (λ (u : Bool). u && (beq s t || eqb a 0)) e ∙ sym (ap (λ (u : Bool). u && (beq t s || eqb b 0)) (sym (eqb-turns a b) ∙ e))

pub eq_turned : (x y : Float) → eq x y ≡ eq y x
unfolding eq
eq_turned nan nan = refl
eq_turned nan (inf t) = refl
eq_turned nan (fin t n d) = refl
eq_turned (inf s) nan = refl
eq_turned (inf s) (inf t) = beq-turns s t
eq_turned (inf s) (fin t n d) = refl
eq_turned (fin s m e) nan = refl
eq_turned (fin s m e) (inf t) = refl
eq_turned (fin s m e) (fin t n d) = level-turns s t (m * up e * down d) (n * up d * down e)

pub same-turned : (a b : TurnCell) → same_cell a b ≡ same_cell b a
same-turned a b =
    ap₂ ◌&&◌
    (ap₂ ◌&&◌
    (ap₂ ◌&&◌ (eq_turned a.outer.lower_mm b.outer.lower_mm) (eq_turned a.outer.upper_mm b.outer.upper_mm))
    (eq_turned a.inner.lower_mm b.inner.lower_mm))
    (eq_turned a.inner.upper_mm b.inner.upper_mm)

-- a bin's lines with the stocks exchanged: the same two, the second's first
pub bin-turned : (all : ℕ) (cs ds : List Float) (i : ℕ) → bin_text all ds cs i ≡ pick (same_cell (cell_at cs i) (cell_at ds i)) [] (cell_text all i (cell_at ds i) ++ cell_text all i (cell_at cs i))
unfolding bin_text
bin-turned all cs ds i = ap (λ (t : Bool). pick t [] (cell_text all i (cell_at ds i) ++ cell_text all i (cell_at cs i))) (same-turned (cell_at ds i) (cell_at cs i))

-- ---- as they are put

-- a cell's line is of 79 bytes at most
pub cell-long : (all i : ℕ) (c : TurnCell) → length (cell_text all i c) ≤ 79
unfolding kept_cell_line fields_text
cell-long all i c =
    omega
    (arith, length-append (cell_prefix (written_form all) i) (four_fields c.outer.lower_mm c.outer.upper_mm c.inner.lower_mm c.inner.upper_mm), cell-short (written_form all) i, four-long c.outer.lower_mm c.outer.upper_mm c.inner.lower_mm c.inner.upper_mm)

pub bin-first : (all : ℕ) (l m : List ℕ) (j i : ℕ) (c : TurnCell) → Wrote l 0 (cell_text all i c) m j → j ≤ 128
bin-first all l m j i c w = omega (arith, w.end, cell-long all i c)

module _ (all : ℕ) (cs ds : List Float) (i : ℕ) {a b : TurnCell} {t : Bool} (first : a ≡ cell_at cs i) (second : b ≡ cell_at ds i) (test : t ≡ same_cell a b) where
  same : same_cell a b ≡ same_cell (cell_at cs i) (cell_at ds i)
  same = ap₂ (λ (x y : TurnCell). same_cell x y) first second

  pub bin-equal : {l : List ℕ} → t ≡ true → Wrote l 0 (bin_text all cs ds i) l 0
  bin-equal {l} e = subst (λ (x : List ℕ). Wrote l 0 x l 0) (sym (bin-silent all cs ds i (sym same ∙ sym test ∙ e))) (record { text = refl; end = refl })

  pub bin-put : {l m o : List ℕ} {j k : ℕ} → t ≡ false → Wrote l 0 (cell_text all i a) m j → Wrote m j (cell_text all i b) o k → Wrote l 0 (bin_text all cs ds i) o k
  unfolding bin_text
  bin-put {l} {m} {o} {j} {k} e u v =
      retext
      (ap₂ (λ (x y : TurnCell). cell_text all i x ++ cell_text all i y) first second ∙ sym (pick-false (same_cell (cell_at cs i) (cell_at ds i)) [] (cell_text all i (cell_at cs i) ++ cell_text all i (cell_at ds i)) (sym same ∙ sym test ∙ e)))
      (and_then u v)
