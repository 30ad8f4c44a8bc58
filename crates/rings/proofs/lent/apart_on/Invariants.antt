-- `rings::lent::apart_on` meets its contract. The loop's invariant: what is found so far is said of the rings passed. Assumes nothing.
use mathlib.Core.Path.{◌≡◌}
use Rattle.rings.specs.Store.{rings_of, apart_all}
use Rattle.rings.proofs.lent.apart_on.Given as goal

abbrev pub invariant-loop-j : goal.invariant-loop-j
invariant-loop-j l = l.before ≡ apart_all (rings_of l.from l.rings) l.k → l.ok ≡ apart_all (rings_of l.j l.rings) l.k
