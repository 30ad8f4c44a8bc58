-- `changes::put_after` meets its contract. The loop's invariant: the after-cells of the changes passed are in the cells. Assumes nothing.
use mathlib.Core.Path.{◌≡◌}
use Prim.Native.Nat.{◌≤◌, min}
use lib.ListN.{length}
use Rattle.changes.specs.Change.{changes_from, room_of}
use Rattle.changes.specs.Commit.{put_all}
use Rattle.changes.proofs.put_after.Given as goal

abbrev pub invariant-loop-i : goal.invariant-loop-i
invariant-loop-i l = (l.i ≤ l.held) × (l.held ≡ min l.k (room_of (length l.indices) (length l.records))) × (l.cells ≡ put_all l.initial.cells (changes_from l.indices l.records l.i))
