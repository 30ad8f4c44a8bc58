-- `profile::good_to` meets its contract. The loop's invariant: what is found so far is said of the points passed. Assumes nothing.
use mathlib.Core.Path.{◌≡◌}
use Rattle.profile.specs.Profile.{good_to}
use Rattle.profile.proofs.good_to.Given as goal

abbrev pub invariant-loop-k : goal.invariant-loop-k
invariant-loop-k l = l.ok ≡ good_to l.points l.k
