-- `rings::remove_all_in` meets its contract. The loop's invariant: the rings passed are added in a store of their own. Assumes nothing.
use Rattle.rings.specs.Store.{rings_of}
use Rattle.rings.proofs.Adding.{Adding}
use Rattle.rings.proofs.remove_all_in.Given as goal

abbrev pub invariant-loop-i : goal.invariant-loop-i
invariant-loop-i l = Adding l.e l.room (rings_of l.count l.rings) l.removed l.i l.work l.n
