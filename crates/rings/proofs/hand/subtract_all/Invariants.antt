-- `rings::hand::subtract_all` meets its contract. The loop's invariant: what the rings passed leave is in hand, and their tests are counted. Assumes nothing.
use mathlib.Core.Path.{◌≡◌}
use Prim.Native.Nat.{◌/◌, min}
use Rattle.rings.specs.Store.{rings_of}
use Rattle.rings.specs.Tests.{tests_of}
use Rattle.rings.proofs.InHand.{Going}
use Rattle.rings.proofs.hand.subtract_all.Given as goal

abbrev pub invariant-loop-j : goal.invariant-loop-j
invariant-loop-j g l = Going (g.row.N / 4) (rings_of l.n l.initial.hand) l.rings l.j l.hand l.m × (l.tests ≡ min (tests_of (rings_of l.n l.initial.hand) (rings_of l.j l.rings)) 65536)
