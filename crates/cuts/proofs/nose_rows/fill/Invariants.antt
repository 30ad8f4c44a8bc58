-- `cuts::nose_rows::fill` meets its contract. The loop's invariant: every bin holds what the rule has of the segments passed. Assumes nothing.
use mathlib.Core.Path.{◌≡◌}
use Prim.Native.Nat.{◌≤◌}
use Rattle.nose.specs.Nose.{segment_count}
use Rattle.cuts.specs.Rows.{row_at, RowFilled, Idle}
use Rattle.cuts.proofs.Sweeps.{Even}
use Rattle.cuts.proofs.nose_rows.fill.Given as goal

abbrev pub invariant-loop-k : goal.invariant-loop-k
invariant-loop-k l = (l.k ≤ l.m) × (l.m ≡ segment_count l.segments) × Even l.initial.values l.initial.there l.values l.there × RowFilled l.s l.n l.side l.rn l.segments l.k (row_at l.values l.there) × Idle l.n l.seen (row_at l.values l.there)
