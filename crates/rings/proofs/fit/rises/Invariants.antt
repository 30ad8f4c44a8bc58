-- `rings::fit::rises` meets its contract. Assumes nothing.
use Prim.Native.Nat.{◌+◌, ◌-◌, ◌≤◌}
use Rattle.rings.proofs.fit.rises.Given as goal

abbrev pub invariant-loop-i : goal.invariant-loop-i
invariant-loop-i l = (8 ≤ l.i) × (l.i ≤ l.stored.n + 8)

abbrev pub decreases-loop-i : goal.decreases-loop-i
decreases-loop-i l = l.stored.n + 8 - l.i
