-- `insert::edges::edges_at` meets its contract. Assumes nothing.
use mathlib.Core.Path.{◌≡◌}
use Rattle.insert.specs.Insert.{edges_to}
use Rattle.insert.proofs.edges.edges_at.Given as goal

abbrev pub invariant-loop-i : goal.invariant-loop-i
invariant-loop-i l = l.found ≡ edges_to l.w l.polygon l.n l.u l.i
