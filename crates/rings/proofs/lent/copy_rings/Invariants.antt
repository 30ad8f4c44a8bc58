-- `rings::lent::copy_rings` meets its contract. The loop's invariant: the rings passed are written. Assumes nothing.
use mathlib.Core.Path.{◌≡◌}
use mathlib.Core.List.{◌++◌}
use lib.ListN.{length}
use Rattle.rings.specs.Store.{rings_of, store_as}
use Rattle.rings.proofs.lent.copy_rings.Given as goal

abbrev pub invariant-loop-i : goal.invariant-loop-i
invariant-loop-i l = (length l.to ≡ length l.initial.to) × (l.to ≡ store_as l.initial.to (rings_of l.at l.initial.to ++ rings_of l.i l.from))
