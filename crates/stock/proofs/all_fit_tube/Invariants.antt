-- `stock::all_fit_tube` meets its contract. The loop's invariant: what is found so far is said of the cells passed. Assumes nothing.
use Rattle.std.proofs.Common.{◌≡◌}
use Rattle.stock.specs.Cell.{fit_to}
use Rattle.stock.proofs.all_fit_tube.Given as goal

abbrev pub invariant-loop-i : goal.invariant-loop-i
invariant-loop-i l = (l.ok ≡ fit_to l.s l.cells l.i)
