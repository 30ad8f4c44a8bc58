-- `picture::bin_at` meets its contract. Assumes nothing.
use Rattle.picture.proofs.Drawing.{bin-past, bin-outer, bin-inner}
use Rattle.picture.proofs.bin_at.Goals as goal

pub returns-then-bins-k : goal.returns-then-bins-k
returns-then-bins-k c = bin-past _ _ _ _ c.bins.ensures c.if-bins-k.true

pub returns-in-Outer : goal.returns-in-Outer
returns-in-Outer c = bin-outer _ _ _ c.in-Outer.is c.bins.ensures c.if-bins-k.false

pub returns-in-Inner : goal.returns-in-Inner
returns-in-Inner c = bin-inner _ _ _ c.in-Inner.is c.bins.ensures c.if-bins-k.false
