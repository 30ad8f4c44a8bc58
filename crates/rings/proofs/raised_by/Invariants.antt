-- `rings::raised_by` meets its contract. The loop's invariant: the rings passed are counted. Assumes nothing.
use mathlib.Core.Path.{◌≡◌}
use Prim.Native.Nat.{◌≤◌}
use Rattle.rings.specs.Store.{rings_of, raised_by}
use Rattle.rings.proofs.raised_by.Given as goal

abbrev pub invariant-loop-i : goal.invariant-loop-i
invariant-loop-i l = (l.n ≤ l.i) × (l.n ≡ raised_by l.e (rings_of l.i l.removed))
