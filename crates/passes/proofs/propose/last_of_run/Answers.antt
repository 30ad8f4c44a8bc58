-- `passes::propose::last_of_run` meets its contract. Assumes nothing.
use mathlib.Core.Path.{sym, ap, ◌∙◌}
use mathlib.Core.Bool.{not}
use borrow.Author.Tests.{eq-eqb, ne_eqb}
use Rattle.floats.specs.Pick.{pick_true, pick-false}
use Rattle.passes.specs.Propose.{last_of_run}
use Rattle.passes.proofs.propose.last_of_run.Goals as goal

pub returns-then-i-n : goal.returns-then-i-n
unfolding last_of_run
returns-then-i-n c = sym (pick_true _ _ _ (eq-eqb _ _ c.if-i-n.true))

pub returns : goal.returns
unfolding last_of_run
returns c = ap not c.same_target.ensures ∙ sym (pick-false _ _ _ (ne_eqb _ _ c.if-i-n.false))
