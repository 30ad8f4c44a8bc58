-- `queries::sums` meets its contract. The loop's invariant: each sum is that of the bins passed. Assumes nothing.
use mathlib.Core.Path.{◌≡◌}
use Rattle.queries.specs.Material.{sure_of, most_of}
use Rattle.queries.specs.Volume.{sum_of}
use Rattle.queries.proofs.sums.Given as goal

abbrev pub invariant-loop-i : goal.invariant-loop-i
invariant-loop-i l = (l.least ≡ sum_of sure_of l.s l.cells l.i) × (l.greatest ≡ sum_of most_of l.s l.cells l.i)
