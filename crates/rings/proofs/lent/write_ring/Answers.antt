-- `rings::lent::write_ring` meets its contract. Assumes nothing.
use native.Mathlib.Omega.{arith}
use lib.ListN.{length-set}
use Rattle.rings.proofs.lent.write_ring.Goals as goal

pub bounds-rings-at-2 : goal.bounds-rings-at-2
bounds-rings-at-2 c = simp length-set (omega arith)

pub bounds-rings-at-3 : goal.bounds-rings-at-3
bounds-rings-at-3 c = simp length-set (omega arith)

pub bounds-rings-at-4 : goal.bounds-rings-at-4
bounds-rings-at-4 c = simp length-set (omega arith)
