-- `chop_lines::words::read_head` meets its contract. Assumes nothing.
use Rattle.std.proofs.Common.{◌≡◌, ℕ, Bool, List, sym, ap, ◌∙◌}
use Rattle.floats.specs.Pick.{pick_true, pick-false}
use Rattle.text.specs.Same.{same_bytes}
use Rattle.job_words.specs.Kind.{word_outer, word_inner}
use Rattle.chop_lines.specs.Words.{head_of}
use Rattle.chop_lines.proofs.words.read_head.Goals as goal

-- what a test of a field says
told : {k f : List ℕ} {r t : Bool} (w : List ℕ) → k ≡ f → r ≡ same_bytes k w → r ≡ t → same_bytes f w ≡ t
told w p q e = ap (λ (x : List ℕ). same_bytes x w) (sym p) ∙ sym q ∙ e

pub returns-then-same : goal.returns-then-same
unfolding head_of
returns-then-same c = sym (pick_true _ _ _ (told word_outer c.part-w.ensures c.same.ensures c.if-same.true) ∙ sym c.read_head_on.ensures)

pub returns-then-same-2 : goal.returns-then-same-2
unfolding head_of
returns-then-same-2 c = sym (pick-false _ _ _ (told word_outer c.part-w.ensures c.same.ensures c.if-same.false)
    ∙ pick_true _ _ _ (told word_inner c.part-w.ensures c.same-2.ensures c.if-same-2.true)
    ∙ sym c.read_head_on-then-same-2.ensures)

pub returns : goal.returns
unfolding head_of
returns c = sym (pick-false _ _ _ (told word_outer c.part-w.ensures c.same.ensures c.if-same.false)
    ∙ pick-false _ _ _ (told word_inner c.part-w.ensures c.same-2.ensures c.if-same-2.false))
