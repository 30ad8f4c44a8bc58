-- `queries::less_ring` meets its contract. The loop's invariant: what is left is said of the bins passed. Assumes nothing.
use mathlib.Core.Path.{◌≡◌}
use Rattle.queries.specs.Pass.{less_bins}
use Rattle.queries.proofs.less_ring.Given as goal

abbrev pub invariant-loop-i : goal.invariant-loop-i
invariant-loop-i l = l.left ≡ less_bins l.s l.cells l.q l.initial.left l.i
