-- `blocks::matching::met_over` meets its contract. The loop's invariant: what is met is said of the bins passed. Assumes nothing.
use mathlib.Core.Path.{◌≡◌}
use Prim.Native.Nat.{◌≤◌, ◌-◌, max}
use Rattle.blocks.specs.Tested.{met_from}
use Rattle.blocks.proofs.matching.met_over.Given as goal

abbrev pub invariant-loop-i : goal.invariant-loop-i
invariant-loop-i l = (l.i ≤ max l.bins.a l.bins.e) × (l.met ≡ met_from l.kept l.initial.met l.bins.cells.now l.bins.a (l.i - l.bins.a))
