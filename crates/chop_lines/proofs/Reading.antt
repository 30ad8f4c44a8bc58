-- What a line of a profile says, and what it does to a scan. Assumes nothing.
use Rattle.std.proofs.Common.{◌≡◌, ℕ, suc, ◌+◌, ◌*◌, ◌<◌, ◌≤◌, List, [], ◌∷◌, ◌++◌, length, get_or, take, drop, set, sym, refl, ap, ◌∙◌, append_assoc, arith, length-set, length-take-le, take_all, take-suc-set, le-ltb, lt-ltb, eq-eqb, ne_eqb, None, Option, Some}
use lib.Ieee.{Float}
use Rattle.floats.specs.Pick.{pick_true, pick-false}
use Rattle.text.proofs.Chosen.{yes, no}
use Rattle.text.specs.Whole.{whole_of}
use Rattle.stock.specs.declared.TurnSide.{TurnSide}
use Rattle.job_words.specs.Number.{field_number}
use Rattle.chop_lines.specs.declared.words.Words.{Words}
use Rattle.chop_lines.specs.declared.words.Words.TheVariants.{Head, Corner, Bad}
use Rattle.chop_lines.specs.declared.scan.Scan.{Scan}
use Rattle.chop_lines.specs.Words.{plain, turned, bulge_of, head_by, head_on, corner_by, corner_of, words_of}
use Rattle.chop_lines.specs.Scan.{State, state, next, refusing, onward, first_line, kept, later_line, on_line}

-- ---- a bulge

pub bulge-empty : (f : List ℕ) → length f < 1 → bulge_of f ≡ None
unfolding bulge_of
bulge-empty [] h = refl
bulge-empty (b ∷ s) h = absurd (omega arith)

pub bulge-minus : (f : List ℕ) → 1 ≤ length f → get_or f 0 0 ≡ 45 → bulge_of f ≡ turned (whole_of (drop 1 f))
unfolding bulge_of
bulge-minus [] h e = absurd (omega arith)
bulge-minus (b ∷ s) h e = simp (eq-eqb _ _ e, yes)

pub bulge-plus : (f : List ℕ) → 1 ≤ length f → (get_or f 0 0 ≡ 45 → ⊥) → bulge_of f ≡ plain (whole_of f)
unfolding bulge_of
bulge-plus [] h e = absurd (omega arith)
bulge-plus (b ∷ s) h e = simp (ne_eqb _ _ e, no)

-- ---- a line's words

-- what a field was read as
pub read_as : {f g : List ℕ} {r x : (Option Float)} → g ≡ f → r ≡ field_number g → r ≡ x → field_number f ≡ x
read_as p q e = ap field_number (sym p) ∙ sym q ∙ e

pub bulge-as : {f g : List ℕ} {r x : (Option Float)} → g ≡ f → r ≡ bulge_of g → r ≡ x → bulge_of f ≡ x
bulge-as p q e = ap bulge_of (sym p) ∙ sym q ∙ e

pub head-is : (fs : List (List ℕ)) (side : TurnSide) {a b : (Option Float)} → field_number (get_or fs 2 []) ≡ a → field_number (get_or fs 3 []) ≡ b → head_by side a b ≡ head_on fs side
unfolding head_on
head-is fs side {b = b} ea eb = ap (λ (x : Option Float). head_by side x b) (sym ea) ∙ ap (λ (x : Option Float). head_by side (field_number (get_or fs 2 [])) x) (sym eb)

pub head-no : (fs : List (List ℕ)) (side : TurnSide) → field_number (get_or fs 2 []) ≡ None → Bad ≡ head_on fs side
unfolding head_on
head-no fs side e = ap (λ (x : Option Float). head_by side x (field_number (get_or fs 3 []))) (sym e)

module _ (fs : List (List ℕ)) where
  pub corner-is : {a b : (Option Float)} {d : (Option Float)} → field_number (get_or fs 1 []) ≡ a → field_number (get_or fs 2 []) ≡ b → bulge_of (get_or fs 3 []) ≡ d → corner_by a b d ≡ corner_of fs
  unfolding corner_of
  corner-is {a} {b} {d} ea eb ed =
      ap (λ (x : Option Float). corner_by x b d) (sym ea)
      ∙ ap (λ (x : Option Float). corner_by (field_number (get_or fs 1 [])) x d) (sym eb)
      ∙ ap (λ (x : Option Float). corner_by (field_number (get_or fs 1 [])) (field_number (get_or fs 2 [])) x) (sym ed)

  pub corner-no : field_number (get_or fs 1 []) ≡ None → Bad ≡ corner_of fs
  unfolding corner_of
  corner-no e = ap (λ (x : Option Float). corner_by x (field_number (get_or fs 2 [])) (bulge_of (get_or fs 3 []))) (sym e)

  pub corner-no-z : {r : Float} → field_number (get_or fs 1 []) ≡ Some r → field_number (get_or fs 2 []) ≡ None → Bad ≡ corner_of fs
  unfolding corner_of
  corner-no-z {r} ea eb =
      ap (λ (x : Option Float). corner_by (Some r) x (bulge_of (get_or fs 3 []))) (sym eb)
      ∙ ap (λ (x : Option Float). corner_by x (field_number (get_or fs 2 [])) (bulge_of (get_or fs 3 []))) (sym ea)

-- ---- a point

-- one point more at the front of lent numbers
pub kept_more : (xs : List Float) (n : ℕ) (r z b : Float) → length xs ≡ 771 → n < 257
    → take (3 * (n + 1)) (set (set (set xs (3 * n) r) (3 * n + 1) z) (3 * n + 2) b) ≡ kept (take (3 * n) xs) r z b
unfolding kept
kept_more xs n r z b h w =
    let xs1 = set xs (3 * n) r in
    let xs2 = set xs1 (3 * n + 1) z in
    let l1 : length xs1 ≡ 771 = length-set xs (3 * n) r ∙ h in
    let l2 : length xs2 ≡ 771 = length-set xs1 (3 * n + 1) z ∙ l1 in
    let e3 : 3 * (n + 1) ≡ suc (3 * n + 2) = omega arith in
    let e2 : 3 * n + 2 ≡ suc (3 * n + 1) = omega arith in
    let e1 : 3 * n + 1 ≡ suc (3 * n) = omega arith in
    let p = take (3 * n) xs in
    let s1 : take (3 * n + 1) xs1 ≡ p ++ (r ∷ []) = ap (λ (k : ℕ). take k xs1) e1 ∙ take-suc-set xs (3 * n) r (omega (arith, h, w)) in
    let s2 : take (3 * n + 2) xs2 ≡ (p ++ (r ∷ [])) ++ (z ∷ []) = ap (λ (k : ℕ). take k xs2) e2 ∙ take-suc-set xs1 (3 * n + 1) z (omega (arith, l1, w)) ∙ ap (λ (v : List Float). v ++ (z ∷ [])) s1 in
    let t : length p < 771 = omega (arith, length-take-le (3 * n) xs (omega (arith, h, w)), w) in
    ap (λ (k : ℕ). take k (set xs2 (3 * n + 2) b)) e3
    ∙ take-suc-set xs2 (3 * n + 2) b (omega (arith, l2, w))
    ∙ ap (λ (v : List Float). v ++ (b ∷ [])) s2
    ∙ append_assoc (p ++ (r ∷ [])) (z ∷ []) (b ∷ [])
    ∙ append_assoc p (r ∷ []) (z ∷ b ∷ [])
    ∙ sym (pick_true _ _ _ (lt-ltb _ _ t))

pub kept_full : (xs : List Float) (n : ℕ) (r z b : Float) → length xs ≡ 771 → 257 ≤ n → take (3 * n) xs ≡ kept (take (3 * n) xs) r z b
unfolding kept
kept_full xs n r z b h w =
    let e : take (3 * n) xs ≡ xs = take_all (3 * n) xs (omega (arith, h, w)) in
    let t : 771 ≤ length (take (3 * n) xs) = omega (arith, ap length e, h) in
    sym (pick-false _ _ _ (le-ltb _ _ t))

-- ---- what a line does

pub scan-is : (s : Scan) (side : TurnSide) (rn tol : Float) (l n m : ℕ) → l ≡ next s → n ≡ m
    → ◌≡◌ {A = Scan} (record { side = side; rn = rn; tolerance = tol; lines = l; refused = n }) (record { side = side; rn = rn; tolerance = tol; lines = next s; refused = m })
scan-is s side rn tol l n m el en = rw (el, en)

module _ (st : State) (s : List ℕ) {w : Words} (read : w ≡ words_of s) where
  pub line_first : {a : Scan} {q : List Float} → st.scan.lines ≡ 0 → a ≡ first_line st.scan w → q ≡ st.points → state a q ≡ on_line st s
  unfolding on_line
  line_first e ea eq =
      rw (ea, eq)
      (ap (λ (x : Words). state (first_line st.scan x) st.points) read ∙ sym (pick_true _ _ _ (eq-eqb _ _ e)))

  pub line-point : {a : Scan} {q : List Float} {r z b : Float} → (st.scan.lines ≡ 0 → ⊥) → w ≡ Corner r z b → a ≡ onward st.scan → q ≡ kept st.points r z b → state a q ≡ on_line st s
  unfolding on_line
  line-point e ex ea eq = rw (ea, eq) (ap (later_line st) (sym ex ∙ read) ∙ sym (pick-false _ _ _ (ne_eqb _ _ e)))

  pub line-twice : {a : Scan} {q : List Float} {side : TurnSide} {rn tol : Float} → (st.scan.lines ≡ 0 → ⊥) → w ≡ Head side rn tol → a ≡ refusing st.scan → q ≡ st.points → state a q ≡ on_line st s
  unfolding on_line
  line-twice e ex ea eq = rw (ea, eq) (ap (later_line st) (sym ex ∙ read) ∙ sym (pick-false _ _ _ (ne_eqb _ _ e)))

  pub line-bad : {a : Scan} {q : List Float} → (st.scan.lines ≡ 0 → ⊥) → w ≡ Bad → a ≡ refusing st.scan → q ≡ st.points → state a q ≡ on_line st s
  unfolding on_line
  line-bad e ex ea eq = rw (ea, eq) (ap (later_line st) (sym ex ∙ read) ∙ sym (pick-false _ _ _ (ne_eqb _ _ e)))
