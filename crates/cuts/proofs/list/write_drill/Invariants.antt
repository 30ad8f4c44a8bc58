-- `cuts::list::write_drill` meets its contract. The loop's invariant: the changes of the cells passed are over the fronts of the lists, and the radius in hand is the drill's. Assumes nothing.
use mathlib.Core.Path.{◌≡◌}
use Prim.Native.Nat.{◌≤◌}
use lib.ListN.{length}
use Rattle.changes.specs.Change.{changes_to, room_of, Listing}
use Rattle.reach.specs.Reach.{act_cell}
use Rattle.cuts.specs.Cut.{drill_at}
use Rattle.cuts.specs.Source.{bore_act, span_act}
use Rattle.cuts.proofs.list.write_drill.Given as goal

abbrev pub invariant-loop-i : goal.invariant-loop-i
invariant-loop-i l = (l.first ≤ l.i) × (l.i ≤ l.last) × (l.top ≡ l.last) × (length (changes_to (act_cell (span_act l.first l.last (bore_act l.s l.tip l.radius l.cone))) l.cells l.last) ≤ room_of (length l.initial.indices) (length l.initial.records)) × Listing (act_cell (span_act l.first l.last (bore_act l.s l.tip l.radius l.cone))) l.cells l.i l.d.k l.initial.indices l.indices l.initial.records l.records × (l.d.low ≡ drill_at l.d.at l.tip l.radius l.cone)
