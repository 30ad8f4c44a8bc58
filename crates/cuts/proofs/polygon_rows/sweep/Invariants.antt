-- `cuts::polygon_rows::sweep` meets its contract. The loop's invariant: the bins passed say what is reached there, and the sample in hand is the one on its line. Assumes nothing.
use Prim.Native.Nat.{◌≤◌}
use Rattle.polygon.specs.Polygon.{polygon_reach}
use Rattle.cuts.specs.Rows.{row_at, Sampled, Crossed}
use Rattle.cuts.proofs.Sweeps.{Even}
use Rattle.cuts.proofs.polygon_rows.sweep.Given as goal

abbrev pub invariant-loop-i : goal.invariant-loop-i
invariant-loop-i l = (l.first ≤ l.i) × (l.i ≤ l.last) × Sampled l.points l.side l.held × Even l.initial.values l.initial.there l.values l.there × Crossed l.side (polygon_reach l.s l.side l.excess l.points) l.first l.i (row_at l.initial.values l.initial.there) (row_at l.values l.there)
