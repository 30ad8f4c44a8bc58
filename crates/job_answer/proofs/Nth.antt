-- The line at k of an answer. Assumes nothing.
use Prim.Native.Nat.{ℕ, zero, suc, ◌+◌, ◌-◌, ◌/◌, ◌≤◌, ◌<◌}
use native.Mathlib.Omega.{arith}
use mathlib.Core.Path.{◌≡◌, refl, sym, ap, ◌∙◌, subst}
use mathlib.Core.Bool.{Bool, true, false}
use mathlib.Core.List.{List, [], ◌∷◌, ◌++◌}
use lib.Dec.{ltb}
use lib.ListN.{length, get_or, length-append, get_or-append, get_or-eq_default}
use lib.Seq.{get_or-append-add, get_or_at}
use lib.Ieee.{Float}
use borrow.Author.Tests.{eq-eqb, ne_eqb, ltb-true, ltb-false}
use Rattle.text.proofs.Chosen.{yes, no}
use Rattle.text.specs.Wrote.{WroteLine}
use Rattle.job_answer.specs.Lines.{gen_line, refused_line}
use Rattle.job_answer.specs.Answer.{cell_line_at, ring_line_at, lines_to, answer_of}

pub lines-length : (f : ℕ → List ℕ) (n : ℕ) → length (lines_to f n) ≡ n
unfolding lines_to
lines-length f zero = refl
lines-length f (suc n) = length-append (lines_to f n) (f n ∷ []) ∙ (let e : length (lines_to f n) ≡ n = lines-length f n in omega arith)

-- the line at k of the first n
nth : (f : ℕ → List ℕ) (n k : ℕ) → k < n → get_or (lines_to f n) k [] ≡ f k
unfolding lines_to
nth f zero k h = absurd (omega arith)
nth f (suc n) k h = by (ltb k n) refl (nth f n k)
  where
    by : (t : Bool) → ltb k n ≡ t → (k < n → get_or (lines_to f n) k [] ≡ f k) → get_or (lines_to f n ++ (f n ∷ [])) k [] ≡ f k
    by true e r =
        let w : k < length (lines_to f n) = omega (arith, lines-length f n, ltb-true k n e) in
        get_or-append (lines_to f n) (f n ∷ []) [] k w ∙ r (ltb-true k n e)
    by false e r =
        let w : n ≡ k = omega (arith, ltb-false k n e) in
        get_or_at (lines_to f n) (f n) [] [] k (lines-length f n ∙ w) ∙ ap f w

before : (f : ℕ → List ℕ) (n k : ℕ) (rest : List (List ℕ)) → k < n → get_or (lines_to f n ++ rest) k [] ≡ f k
before f n k rest h =
    let w : k < length (lines_to f n) = omega (arith, lines-length f n) in
    get_or-append (lines_to f n) rest [] k w ∙ nth f n k h

after : (f : ℕ → List ℕ) (n k : ℕ) (rest : List (List ℕ)) → n ≤ k → get_or (lines_to f n ++ rest) k [] ≡ get_or rest (k - n) []
after f n k rest h =
    let w : length (lines_to f n) + (k - n) ≡ k = omega (arith, lines-length f n) in
    ap (λ (x : ℕ). get_or (lines_to f n ++ rest) x []) (sym w) ∙ get_or-append-add (lines_to f n) rest (k - n) []

module _ (refused line generation : ℕ) (cells rings : List Float) (k : ℕ) where
  pub is-refused : (refused ≡ 0 → ⊥) → k ≡ 0 → refused_line line refused ≡ get_or (answer_of refused line generation cells rings) k []
  unfolding answer_of
  is-refused h e = simp (ne_eqb _ _ h, no, e)

  pub past-refused : (refused ≡ 0 → ⊥) → (k ≡ 0 → ⊥) → [] ≡ get_or (answer_of refused line generation cells rings) k []
  unfolding answer_of
  past-refused h e = simp (ne_eqb _ _ h, no) (sym (get_or-eq_default (refused_line line refused ∷ []) [] (let w : (k ≡ 0 → ⊥) = e in at_least k e)))
    where
      at_least : (n : ℕ) → (n ≡ 0 → ⊥) → 1 ≤ n
      at_least zero e = absurd (e refl)
      at_least (suc n) e = omega arith

  pub is-cell : refused ≡ 0 → k < length cells / 4 → cell_line_at cells k ≡ get_or (answer_of refused line generation cells rings) k []
  unfolding answer_of
  is-cell h l = simp (eq-eqb _ _ h, yes) (sym (before (cell_line_at cells) (length cells / 4) k _ l))

  past : refused ≡ 0 → length cells / 4 ≤ k
      → get_or (lines_to (ring_line_at rings) (length rings / 4) ++ (gen_line generation ∷ [])) (k - length cells / 4) [] ≡ get_or (answer_of refused line generation cells rings) k []
  unfolding answer_of
  past h l = simp (eq-eqb _ _ h, yes) (sym (after (cell_line_at cells) (length cells / 4) k _ l))

  pub is-ring : refused ≡ 0 → length cells / 4 ≤ k → k - length cells / 4 < length rings / 4
      → ring_line_at rings (k - length cells / 4) ≡ get_or (answer_of refused line generation cells rings) k []
  is-ring h l m = sym (before (ring_line_at rings) (length rings / 4) (k - length cells / 4) _ m) ∙ past h l

  pub is-gen : refused ≡ 0 → length cells / 4 ≤ k → k - length cells / 4 ≡ length rings / 4
      → gen_line generation ≡ get_or (answer_of refused line generation cells rings) k []
  is-gen h l m =
      sym (get_or_at (lines_to (ring_line_at rings) (length rings / 4)) (gen_line generation) [] [] (k - length cells / 4) (lines-length (ring_line_at rings) (length rings / 4) ∙ sym m))
      ∙ past h l

  pub is-past : refused ≡ 0 → length cells / 4 ≤ k → length rings / 4 ≤ k - length cells / 4 → (k - length cells / 4 ≡ length rings / 4 → ⊥)
      → [] ≡ get_or (answer_of refused line generation cells rings) k []
  is-past h l m e =
      let w : length rings / 4 < k - length cells / 4 = lt_of _ _ m e in
      let v : length (lines_to (ring_line_at rings) (length rings / 4) ++ (gen_line generation ∷ [])) ≤ k - length cells / 4 =
      omega (arith, length-append (lines_to (ring_line_at rings) (length rings / 4)) (gen_line generation ∷ []), lines-length (ring_line_at rings) (length rings / 4)) in
      sym (get_or-eq_default (lines_to (ring_line_at rings) (length rings / 4) ++ (gen_line generation ∷ [])) [] v) ∙ past h l
    where
      lt_of : (a b : ℕ) → a ≤ b → (b ≡ a → ⊥) → a < b
      lt_of a b p q = by (ltb a b) refl
        where
          by : (t : Bool) → ltb a b ≡ t → a < b
          by true f = ltb-true a b f
          by false f = absurd (q (omega (arith, ltb-false a b f)))

-- nothing written
pub none : (l : List ℕ) → WroteLine l [] l 0
none l = record { wrote = record { text = refl; end = omega arith }; within = omega arith }

-- the same line under another name
pub reline : {l m s t : List ℕ} {r : ℕ} → s ≡ t → WroteLine l s m r → WroteLine l t m r
reline {l} {m} {s} {t} {r} e w = subst (λ (x : List ℕ). WroteLine l x m r) e w
