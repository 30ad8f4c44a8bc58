-- `rings::fit::all_fit` meets its contract. The loop's invariant: where all is well so far, each ring passed fits. Assumes nothing.
use mathlib.Core.Path.{◌≡◌}
use mathlib.Core.Bool.{true}
use Rattle.rings.specs.Swept.{Each}
use Rattle.rings.proofs.fit.all_fit.Given as goal

abbrev pub invariant-loop-i : goal.invariant-loop-i
invariant-loop-i l = l.ok ≡ true → Each l.e l.stored.rings.now l.i
