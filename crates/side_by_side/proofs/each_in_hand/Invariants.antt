-- `side_by_side::each_in_hand` meets its contract. Assumes nothing.
use Rattle.std.proofs.Common.{◌≡◌}
use Rattle.rings.specs.Store.{rings_of}
use Rattle.rings.specs.Remove.{lent_rings}
use Rattle.side_by_side.specs.Compared.{each_in_hand}
use Rattle.side_by_side.proofs.each_in_hand.Given as goal

abbrev pub invariant-loop-i : goal.invariant-loop-i
invariant-loop-i l = l.ok ≡ each_in_hand (lent_rings l.rings l.count) (rings_of l.i l.others)
