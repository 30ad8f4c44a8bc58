-- `cuts::list::count` meets its contract. The loop's invariant: k of the cells passed change. Assumes nothing.
use mathlib.Core.Path.{◌≡◌}
use Prim.Native.Nat.{◌≤◌}
use lib.ListN.{length}
use Rattle.changes.specs.Change.{changes_to}
use Rattle.reach.specs.Reach.{act_cell}
use Rattle.cuts.specs.Source.{source_act, span_act}
use Rattle.cuts.proofs.list.count.Given as goal

abbrev pub invariant-loop-i : goal.invariant-loop-i
invariant-loop-i l = (l.first ≤ l.i) × (l.i ≤ l.last) × (l.k ≤ l.i) × (l.k ≡ length (changes_to (act_cell (span_act l.first l.last (source_act l.s l.source l.values l.there))) l.cells l.i))
