-- `rings::fit::store_fits` meets its contract. The loop's invariant: what is found so far is said of the rings passed, and the boxes are about them. Assumes nothing.
use Rattle.rings.proofs.Boxes.{Checked}
use Rattle.rings.proofs.fit.store_fits.Given as goal

abbrev pub invariant-loop-i : goal.invariant-loop-i
invariant-loop-i l = Checked l.e l.rings l.i l.boxes l.ok
