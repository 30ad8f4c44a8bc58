-- `passes::propose::first_from` meets its contract. Assumes nothing.
use mathlib.Core.Path.{sym}
use Rattle.floats.specs.Pick.{pick_true, pick-false}
use Rattle.passes.proofs.propose.first_from.Goals as goal

pub returns-then-ends : goal.returns-then-ends
returns-then-ends c = sym (pick_true _ _ _ c.if-ends.true)

pub returns-else-ends : goal.returns-else-ends
returns-else-ends c = sym (pick-false _ _ _ c.if-ends.false)
