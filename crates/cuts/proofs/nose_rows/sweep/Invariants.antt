-- `cuts::nose_rows::sweep` meets its contract. The loop's invariant: the bins passed hold one segment more, and the sample in hand is the one on its line. Assumes nothing.
use mathlib.Core.Path.{◌≡◌}
use Prim.Native.Nat.{◌≤◌}
use Rattle.nose.specs.Track.{sample_at}
use Rattle.cuts.specs.Rows.{row_at, Stepped}
use Rattle.cuts.proofs.Sweeps.{Even}
use Rattle.cuts.proofs.nose_rows.sweep.Given as goal

abbrev pub invariant-loop-i : goal.invariant-loop-i
invariant-loop-i l = (l.first ≤ l.i) × (l.i ≤ l.last) × (l.a ≡ sample_at l.t l.at) × Even l.initial.values l.initial.there l.values l.there × Stepped l.s l.t l.first l.i (row_at l.initial.values l.initial.there) (row_at l.values l.there)
