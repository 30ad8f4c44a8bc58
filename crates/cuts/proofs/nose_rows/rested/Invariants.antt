-- `cuts::nose_rows::rested` meets its contract. Assumes nothing.
use Prim.Native.Nat.{◌≤◌}
use Rattle.cuts.specs.Rows.{row_at, Rested}
use Rattle.cuts.proofs.nose_rows.rested.Given as goal

abbrev pub invariant-loop-i : goal.invariant-loop-i
invariant-loop-i l = (l.first ≤ l.i) × (l.i ≤ l.last) × Rested l.s l.t l.first l.i (row_at l.values l.there)
