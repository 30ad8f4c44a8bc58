-- `cuts::ends::back` meets its contract. Assumes nothing.
use Prim.Native.Nat.{◌≤◌}
use Rattle.cuts.proofs.ends.back.Given as goal

abbrev pub invariant-loop-s : goal.invariant-loop-s
invariant-loop-s l = l.g ≤ l.n

abbrev pub decreases-loop-s : goal.decreases-loop-s
decreases-loop-s l = l.g
