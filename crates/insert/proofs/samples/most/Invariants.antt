-- `insert::samples::most` meets its contract. Assumes nothing.
use mathlib.Core.Path.{◌≡◌}
use Prim.Native.Nat.{◌-◌}
use Rattle.insert.specs.Insert.{most_to}
use Rattle.insert.proofs.samples.most.Given as goal

abbrev pub invariant-loop-i : goal.invariant-loop-i
invariant-loop-i l = l.found ≡ most_to l.w l.points (l.i - 1)
