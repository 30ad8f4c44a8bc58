-- `job_words::read_line` meets its contract: the tests in the code's order. Assumes nothing.
use Rattle.std.proofs.Common.{◌≡◌, ℕ, Bool, List, sym, ap, ◌∙◌}
use Rattle.floats.specs.Pick.{pick_true, pick-false}
use Rattle.text.specs.Same.{same_bytes}
use Rattle.job_words.specs.Kind.{kind_of, line_of, word_arc, word_bar, word_line, word_thread, word_thread_inner, word_drill, word_ring}
use Rattle.job_words.proofs.read_line.Goals as goal

-- what a test of the first field says
told : {k f : List ℕ} {r t : Bool} (w : List ℕ) → k ≡ f → r ≡ same_bytes k w → r ≡ t → same_bytes f w ≡ t
told w p q e = ap (λ (x : List ℕ). same_bytes x w) (sym p) ∙ sym q ∙ e

pub returns-then-same : goal.returns-then-same
unfolding line_of kind_of
returns-then-same c = sym (pick_true _ _ _ (told word_arc c.part-kind.ensures c.same.ensures c.if-same.true))

pub returns-then-same-2 : goal.returns-then-same-2
unfolding line_of kind_of
returns-then-same-2 c = sym (pick-false _ _ _ (told word_arc c.part-kind.ensures c.same.ensures c.if-same.false) ∙ pick_true _ _ _ (told word_bar c.part-kind.ensures c.same-2.ensures c.if-same-2.true) ∙ sym c.read_bar.ensures)

pub returns-then-same-3 : goal.returns-then-same-3
unfolding line_of kind_of
returns-then-same-3 c = sym (pick-false _ _ _ (told word_arc c.part-kind.ensures c.same.ensures c.if-same.false) ∙ pick-false _ _ _ (told word_bar c.part-kind.ensures c.same-2.ensures c.if-same-2.false) ∙ pick_true _ _ _ (told word_line c.part-kind.ensures c.same-3.ensures c.if-same-3.true) ∙ sym c.read_nose.ensures)

pub returns-then-same-4 : goal.returns-then-same-4
unfolding line_of kind_of
returns-then-same-4 c = sym (pick-false _ _ _ (told word_arc c.part-kind.ensures c.same.ensures c.if-same.false) ∙ pick-false _ _ _ (told word_bar c.part-kind.ensures c.same-2.ensures c.if-same-2.false) ∙ pick-false _ _ _ (told word_line c.part-kind.ensures c.same-3.ensures c.if-same-3.false) ∙ pick_true _ _ _ (told word_thread c.part-kind.ensures c.same-4.ensures c.if-same-4.true) ∙ sym c.read_thread.ensures)

pub returns-then-same-5 : goal.returns-then-same-5
unfolding line_of kind_of
returns-then-same-5 c = sym (pick-false _ _ _ (told word_arc c.part-kind.ensures c.same.ensures c.if-same.false) ∙ pick-false _ _ _ (told word_bar c.part-kind.ensures c.same-2.ensures c.if-same-2.false) ∙ pick-false _ _ _ (told word_line c.part-kind.ensures c.same-3.ensures c.if-same-3.false) ∙ pick-false _ _ _ (told word_thread c.part-kind.ensures c.same-4.ensures c.if-same-4.false) ∙ pick_true _ _ _ (told word_thread_inner c.part-kind.ensures c.same-5.ensures c.if-same-5.true) ∙ sym c.read_thread_inner.ensures)

pub returns-then-same-6 : goal.returns-then-same-6
unfolding line_of kind_of
returns-then-same-6 c = sym (pick-false _ _ _ (told word_arc c.part-kind.ensures c.same.ensures c.if-same.false) ∙ pick-false _ _ _ (told word_bar c.part-kind.ensures c.same-2.ensures c.if-same-2.false) ∙ pick-false _ _ _ (told word_line c.part-kind.ensures c.same-3.ensures c.if-same-3.false) ∙ pick-false _ _ _ (told word_thread c.part-kind.ensures c.same-4.ensures c.if-same-4.false) ∙ pick-false _ _ _ (told word_thread_inner c.part-kind.ensures c.same-5.ensures c.if-same-5.false) ∙ pick_true _ _ _ (told word_drill c.part-kind.ensures c.same-6.ensures c.if-same-6.true) ∙ sym c.read_drill.ensures)

pub returns-then-same-7 : goal.returns-then-same-7
unfolding line_of kind_of
returns-then-same-7 c = sym (pick-false _ _ _ (told word_arc c.part-kind.ensures c.same.ensures c.if-same.false) ∙ pick-false _ _ _ (told word_bar c.part-kind.ensures c.same-2.ensures c.if-same-2.false) ∙ pick-false _ _ _ (told word_line c.part-kind.ensures c.same-3.ensures c.if-same-3.false) ∙ pick-false _ _ _ (told word_thread c.part-kind.ensures c.same-4.ensures c.if-same-4.false) ∙ pick-false _ _ _ (told word_thread_inner c.part-kind.ensures c.same-5.ensures c.if-same-5.false) ∙ pick-false _ _ _ (told word_drill c.part-kind.ensures c.same-6.ensures c.if-same-6.false) ∙ pick_true _ _ _ (told word_ring c.part-kind.ensures c.same-7.ensures c.if-same-7.true) ∙ sym c.read_ring.ensures)

pub returns : goal.returns
unfolding line_of kind_of
returns c = sym (pick-false _ _ _ (told word_arc c.part-kind.ensures c.same.ensures c.if-same.false) ∙ pick-false _ _ _ (told word_bar c.part-kind.ensures c.same-2.ensures c.if-same-2.false) ∙ pick-false _ _ _ (told word_line c.part-kind.ensures c.same-3.ensures c.if-same-3.false) ∙ pick-false _ _ _ (told word_thread c.part-kind.ensures c.same-4.ensures c.if-same-4.false) ∙ pick-false _ _ _ (told word_thread_inner c.part-kind.ensures c.same-5.ensures c.if-same-5.false) ∙ pick-false _ _ _ (told word_drill c.part-kind.ensures c.same-6.ensures c.if-same-6.false) ∙ pick-false _ _ _ (told word_ring c.part-kind.ensures c.same-7.ensures c.if-same-7.false))
