-- `changes::first_fall` meets its contract. Assumes nothing.
use Rattle.std.specs.Prelude.{None}
use mathlib.Core.Path.{◌≡◌}
use Prim.Native.Nat.{◌≤◌, ◌<◌}
use lib.ListN.{length}
use Rattle.changes.specs.Change.{changes_from, room_of}
use Rattle.changes.specs.Commit.{first_fall}
use Rattle.changes.proofs.first_fall.Given as goal

abbrev pub invariant-loop-i : goal.invariant-loop-i
invariant-loop-i l = (0 < l.i) × (l.i ≤ l.k) × (l.k ≤ room_of (length l.indices) (length l.records)) × (first_fall (changes_from l.indices l.records l.i) ≡ None)
