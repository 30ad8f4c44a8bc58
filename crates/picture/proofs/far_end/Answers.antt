-- `picture::far_end` meets its contract. Assumes nothing.
use Rattle.picture.proofs.Drawing.{far-outer, far-inner}
use Rattle.picture.proofs.far_end.Goals as goal

pub returns-in-Outer : goal.returns-in-Outer
returns-in-Outer c = let a = c.args in
    far-outer a.spec a.s a.k _ _ c.bin_at.ensures c.bin_of-z.ensures c.in-Outer.is

pub returns-in-Inner : goal.returns-in-Inner
returns-in-Inner c = let a = c.args in
    far-inner a.spec a.s a.k _ _ c.bin_at.ensures c.bin_of-z.ensures c.in-Inner.is
