-- `picture::run_end` meets its contract. The loop's invariant: all bins passed are at k's radius. Assumes nothing.
use Rattle.picture.specs.Steps.{edge_of}
use Rattle.picture.proofs.Runs.{Level}
use Rattle.picture.proofs.run_end.Given as goal

abbrev pub invariant-loop-j : goal.invariant-loop-j
invariant-loop-j l = Level (edge_of l.look l.side l.cells1 l.cells2 l.s) l.k l.j
