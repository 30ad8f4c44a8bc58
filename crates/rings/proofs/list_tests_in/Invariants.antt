-- `rings::list_tests_in` meets its contract. The loop's invariant: the rings passed are added in a store of its own, and their tests are written. Assumes nothing.
use Rattle.rings.specs.Store.{rings_of}
use Rattle.rings.proofs.Listed.{Telling}
use Rattle.rings.proofs.list_tests_in.Given as goal

abbrev pub invariant-loop-i : goal.invariant-loop-i
invariant-loop-i l = Telling l.e l.room (rings_of l.count l.rings) l.removed l.i l.work l.n l.initial.tests l.tests
