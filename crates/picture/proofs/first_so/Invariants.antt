-- `picture::first_so` meets its contract. The loop's invariant: no bin passed is as it is wanted. Assumes nothing.
use Rattle.picture.specs.Drawn.{looks_at}
use Rattle.picture.proofs.Runs.{Passed}
use Rattle.picture.proofs.first_so.Given as goal

abbrev pub invariant-loop-j : goal.invariant-loop-j
invariant-loop-j l = Passed (looks_at l.look l.spec l.cells1 l.cells2) l.wanted l.i l.j
