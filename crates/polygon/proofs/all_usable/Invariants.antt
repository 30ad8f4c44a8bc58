-- `polygon::all_usable` meets its contract. The loop's invariant: what is found so far is said of the numbers passed. Assumes nothing.
use mathlib.Core.Path.{◌≡◌}
use Rattle.floats.specs.Numbers.{usable_to}
use Rattle.polygon.proofs.all_usable.Given as goal

abbrev pub invariant-loop-x : goal.invariant-loop-x
invariant-loop-x l = l.ok ≡ usable_to l.points l.x-index
