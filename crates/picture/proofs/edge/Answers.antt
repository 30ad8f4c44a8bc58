-- `picture::edge` meets its contract. Assumes nothing.
use Rattle.picture.proofs.Drawing.{edge-outer, edge-inner}
use Rattle.picture.proofs.edge.Goals as goal

pub returns-in-Outer : goal.returns-in-Outer
returns-in-Outer c = let a = c.args in
    edge-outer a.look a.cells1.now a.cells2.now a.s a.k _ _ _ _ c.bin_at-i.ensures c.cell_at.ensures c.cell_at-2.ensures c.band_of-band.ensures c.in-Outer.is

pub returns-in-Inner : goal.returns-in-Inner
returns-in-Inner c = let a = c.args in
    edge-inner a.look a.cells1.now a.cells2.now a.s a.k _ _ _ _ c.bin_at-i.ensures c.cell_at.ensures c.cell_at-2.ensures c.band_of-band.ensures c.in-Inner.is
