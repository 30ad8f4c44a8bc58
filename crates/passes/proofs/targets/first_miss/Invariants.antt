-- `passes::targets::first_miss` meets its contract. Assumes nothing.
use Rattle.std.specs.Prelude.{None}
use mathlib.Core.Path.{◌≡◌}
use Prim.Native.Nat.{◌*◌, ◌≤◌}
use lib.ListN.{length}
use Rattle.passes.specs.Check.{first_miss}
use Rattle.passes.proofs.targets.first_miss.Given as goal

abbrev pub invariant-loop-i : goal.invariant-loop-i
invariant-loop-i l = (l.i ≤ l.n) × (length l.targets ≡ 2 * l.n) × (first_miss l.targets l.cells l.i ≡ None)
