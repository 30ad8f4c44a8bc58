-- `chop_lines::words::read_words` meets its contract. Assumes nothing.
use Rattle.std.proofs.Common.{◌≡◌, ℕ, Bool, eqb, List, sym, ap, ◌∙◌, eq-eqb, ne_eqb}
use Rattle.floats.specs.Pick.{pick_true, pick-false}
use Rattle.text.specs.Same.{same_bytes}
use Rattle.chop_lines.specs.Words.{word_profile, word_point, words_by}
use Rattle.chop_lines.proofs.words.read_words.Goals as goal

-- what a test of a field says
told : {k f : List ℕ} {r t : Bool} (w : List ℕ) → k ≡ f → r ≡ same_bytes k w → r ≡ t → same_bytes f w ≡ t
told w p q e = ap (λ (x : List ℕ). same_bytes x w) (sym p) ∙ sym q ∙ e

-- what the count of fields says
counted : {n m : ℕ} {t : Bool} → n ≡ m → eqb n 4 ≡ t → eqb m 4 ≡ t
counted p e = ap (λ (k : ℕ). eqb k 4) (sym p) ∙ e

pub returns-then-part_count-ne4 : goal.returns-then-part_count-ne4
unfolding words_by
returns-then-part_count-ne4 c = sym (pick-false _ _ _ (counted c.part_count.ensures (ne_eqb _ _ c.if-part_count-ne4.true)))

pub returns-then-same : goal.returns-then-same
unfolding words_by
returns-then-same c = sym (pick_true _ _ _ (counted c.part_count.ensures (eq-eqb _ _ c.if-part_count-ne4.false))
    ∙ pick_true _ _ _ (told word_profile c.part-kind.ensures c.same.ensures c.if-same.true)
    ∙ sym c.read_head.ensures)

pub returns-then-same-2 : goal.returns-then-same-2
unfolding words_by
returns-then-same-2 c = sym (pick_true _ _ _ (counted c.part_count.ensures (eq-eqb _ _ c.if-part_count-ne4.false))
    ∙ pick-false _ _ _ (told word_profile c.part-kind.ensures c.same.ensures c.if-same.false)
    ∙ pick_true _ _ _ (told word_point c.part-kind.ensures c.same-2.ensures c.if-same-2.true)
    ∙ sym c.read_corner.ensures)

pub returns : goal.returns
unfolding words_by
returns c = sym (pick_true _ _ _ (counted c.part_count.ensures (eq-eqb _ _ c.if-part_count-ne4.false))
    ∙ pick-false _ _ _ (told word_profile c.part-kind.ensures c.same.ensures c.if-same.false)
    ∙ pick-false _ _ _ (told word_point c.part-kind.ensures c.same-2.ensures c.if-same-2.false))
