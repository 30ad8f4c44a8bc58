-- `changes::count_differences` meets its contract. The loop's invariant: k differ among the cells passed. Assumes nothing.
use mathlib.Core.Path.{◌≡◌}
use Prim.Native.Nat.{◌≤◌}
use lib.ListN.{length}
use Rattle.changes.specs.Change.{changes_to}
use Rattle.changes.specs.Difference.{other_cell}
use Rattle.changes.proofs.count_differences.Given as goal

abbrev pub invariant-loop-i : goal.invariant-loop-i
invariant-loop-i l = (l.i ≤ l.n) × (l.k ≤ l.i) × (l.k ≡ length (changes_to (other_cell l.after) l.cells l.i))
