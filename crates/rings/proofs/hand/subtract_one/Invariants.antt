-- `rings::hand::subtract_one` meets its contract. The loop's invariant: the pieces passed are subtracted from. Assumes nothing.
use mathlib.Core.Path.{◌≡◌}
use lib.ListN.{length}
use Rattle.rings.specs.Ring.{subtract}
use Rattle.rings.specs.Store.{rings_of}
use Rattle.rings.specs.Hand.{Grows}
use Rattle.rings.proofs.hand.subtract_one.Given as goal

abbrev pub invariant-loop-i : goal.invariant-loop-i
invariant-loop-i l = (length l.next ≡ length l.initial.next) × Grows l.initial.next 0 l.next l.m (subtract (rings_of l.i l.hand) l.k)
