-- `blocks::clear` meets its contract. The loop's invariant: the numbers passed are cleared, the rest as they were. Assumes nothing.
use mathlib.Core.Path.{◌≡◌}
use Rattle.refusals.specs.Lent.{over}
use Rattle.blocks.proofs.Steps.{clear_to}
use Rattle.blocks.proofs.clear.Given as goal

abbrev pub invariant-loop-x : goal.invariant-loop-x
invariant-loop-x l = l.blocks ≡ over (clear_to l.initial.blocks l.x-index) l.initial.blocks
