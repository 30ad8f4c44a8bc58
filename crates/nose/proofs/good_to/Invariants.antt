-- `nose::good_to` meets its contract. The loop's invariant: what is found so far is said of the segments passed. Assumes nothing.
use mathlib.Core.Path.{◌≡◌}
use Rattle.nose.specs.Nose.{good_to}
use Rattle.nose.proofs.good_to.Given as goal

abbrev pub invariant-loop-k : goal.invariant-loop-k
invariant-loop-k l = l.ok ≡ good_to l.segments l.k
