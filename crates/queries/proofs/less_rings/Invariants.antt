-- `queries::less_rings` meets its contract. The loop's invariant: what is left is said of the rings passed. Assumes nothing.
use mathlib.Core.Path.{◌≡◌}
use Rattle.queries.specs.Pass.{less_all}
use Rattle.queries.proofs.less_rings.Given as goal

abbrev pub invariant-loop-k : goal.invariant-loop-k
invariant-loop-k l = l.left ≡ less_all l.s l.cells l.n l.rings l.initial.left l.k
