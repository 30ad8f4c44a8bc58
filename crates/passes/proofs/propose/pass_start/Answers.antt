-- `passes::propose::pass_start` meets its contract. Assumes nothing.
use mathlib.Core.Path.{sym, ◌∙◌}
use borrow.Author.Tests.{eq-eqb, ne_eqb}
use Rattle.floats.specs.Pick.{pick_true, pick-false}
use Rattle.passes.specs.Propose.{pass_start}
use Rattle.passes.proofs.propose.pass_start.Goals as goal

pub returns-then-i-eq0 : goal.returns-then-i-eq0
unfolding pass_start
returns-then-i-eq0 c = simp c.bin_of-bin.ensures (sym (pick_true _ _ _ (eq-eqb _ _ c.if-i-eq0.true)))

pub returns-then-aim-lower_at : goal.returns-then-aim-lower_at
unfolding pass_start
returns-then-aim-lower_at c = simp (c.bin_of-bin.ensures, c.inset.ensures) (sym (pick-false _ _ _ (ne_eqb _ _ c.if-i-eq0.false) ∙ pick_true _ _ _ (simp (← c.lower_at.ensures, ← c.aim.ensures) c.if-aim-lower_at.true)))

pub returns : goal.returns
unfolding pass_start
returns c = simp c.bin_of-bin.ensures (sym (pick-false _ _ _ (ne_eqb _ _ c.if-i-eq0.false) ∙ pick-false _ _ _ (simp (← c.lower_at.ensures, ← c.aim.ensures) c.if-aim-lower_at.false)))
