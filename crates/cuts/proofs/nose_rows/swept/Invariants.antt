-- `cuts::nose_rows::swept` meets its contract. Assumes nothing.
use Prim.Native.Nat.{◌≤◌, ◌-◌}
use Rattle.cuts.specs.Rows.{row_at, Stepped}
use Rattle.cuts.proofs.Sweeps.{Even}
use Rattle.cuts.proofs.nose_rows.swept.Given as goal

abbrev pub invariant-loop-i : goal.invariant-loop-i
invariant-loop-i l = (l.first ≤ l.i) × (l.i ≤ l.last) × Even l.initial.values l.initial.there l.values l.there × Stepped l.s l.t l.first l.i (row_at l.initial.values l.initial.there) (row_at l.values l.there)

abbrev pub decreases-loop-i : goal.decreases-loop-i
decreases-loop-i l = l.last - l.i
