-- `passes::targets::targets_to` meets its contract. The loop's invariant: what is found so far is said of the bins passed. Assumes nothing.
use mathlib.Core.Path.{◌≡◌}
use Prim.Native.Nat.{◌≤◌}
use Rattle.passes.specs.Check.{targets_to}
use Rattle.passes.proofs.targets.targets_to.Given as goal

abbrev pub invariant-loop-i : goal.invariant-loop-i
invariant-loop-i l = (l.i ≤ l.n) × (l.ok ≡ targets_to l.targets l.i)
