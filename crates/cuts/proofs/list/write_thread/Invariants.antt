-- `cuts::list::write_thread` meets its contract. The loop's invariant: the changes of the cells passed are over the fronts of the lists. Assumes nothing.
use mathlib.Core.Path.{◌≡◌}
use Prim.Native.Nat.{◌≤◌}
use lib.ListN.{length}
use Rattle.changes.specs.Change.{changes_to, room_of, Listing}
use Rattle.reach.specs.Reach.{act_cell}
use Rattle.cuts.specs.Source.{low_act, span_act}
use Rattle.cuts.proofs.list.write_thread.Given as goal

abbrev pub invariant-loop-i : goal.invariant-loop-i
invariant-loop-i l = (l.first ≤ l.i) × (l.i ≤ l.last) × (l.top ≡ l.last) × (length (changes_to (act_cell (span_act l.first l.last (low_act l.side l.radius))) l.cells l.last) ≤ room_of (length l.initial.indices) (length l.initial.records)) × Listing (act_cell (span_act l.first l.last (low_act l.side l.radius))) l.cells l.i l.k l.initial.indices l.indices l.initial.records l.records
