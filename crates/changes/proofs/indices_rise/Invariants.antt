-- `changes::indices_rise` meets its contract. The loop's invariant: what is found so far is said of the changes passed. Assumes nothing.
use mathlib.Core.Path.{◌≡◌}
use Prim.Native.Nat.{◌≤◌, ◌<◌}
use lib.ListN.{length}
use Rattle.changes.specs.Change.{changes_from, room_of}
use Rattle.changes.specs.Decide.{rises}
use Rattle.changes.proofs.indices_rise.Given as goal

abbrev pub invariant-loop-i : goal.invariant-loop-i
invariant-loop-i l = (0 < l.i) × (l.i ≤ l.k) × (l.k ≤ room_of (length l.indices) (length l.records)) × (l.ok ≡ rises (changes_from l.indices l.records l.i))
