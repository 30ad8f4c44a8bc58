-- `side_by_side::spelled::put_rings` meets its contract. Assumes nothing.
use Rattle.side_by_side.proofs.Texts.{RingsPut}
use Rattle.side_by_side.proofs.spelled.put_rings.Given as goal

abbrev pub invariant-loop-i : goal.invariant-loop-i
invariant-loop-i l = RingsPut l.rings l.i l.initial.out l.out l.e
