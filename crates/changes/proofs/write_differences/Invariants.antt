-- `changes::write_differences` meets its contract. The loop's invariant: the differing cells passed are over the fronts of the lists. Assumes nothing.
use mathlib.Core.Path.{◌≡◌}
use Prim.Native.Nat.{◌≤◌}
use lib.ListN.{length}
use Rattle.changes.specs.Change.{changes_to, room_of, Listing}
use Rattle.changes.specs.Difference.{other_cell}
use Rattle.changes.proofs.write_differences.Given as goal

abbrev pub invariant-loop-i : goal.invariant-loop-i
invariant-loop-i l = (l.i ≤ l.n) × (l.top ≡ l.n) × (length (changes_to (other_cell l.after) l.cells l.n) ≤ room_of (length l.initial.indices) (length l.initial.records)) × Listing (other_cell l.after) l.cells l.i l.k l.initial.indices l.indices l.initial.records l.records
