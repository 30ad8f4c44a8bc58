-- `rings::all_good` meets its contract. The loop's invariant: what is found so far is said of the rings passed. Assumes nothing.
use mathlib.Core.Path.{◌≡◌}
use Rattle.rings.specs.Store.{rings_of, all_good}
use Rattle.rings.proofs.all_good.Given as goal

abbrev pub invariant-loop-i : goal.invariant-loop-i
invariant-loop-i l = l.ok ≡ all_good (rings_of l.i l.rings)
