-- `queries::less_bin` meets its contract. Assumes nothing.
use Rattle.queries.proofs.Passes.{bin-skipped, bin-less}
use Rattle.queries.proofs.less_bin.Goals as goal

pub returns-then-h : goal.returns-then-h
returns-then-h c = let args = c.args in
    bin-skipped args.s args.cells.now args.q args.i args.v _ _ _ c.bin_of-z.ensures c.least.ensures c.greatest.ensures c.if-h.true

pub returns : goal.returns
returns c = let args = c.args in
    bin-less args.s args.cells.now args.q args.i args.v _ _ _ c.bin_of-z.ensures c.least.ensures c.greatest.ensures
    _ _ _ _ _ c.if-h.false c.cell_at-c.ensures c.sure.ensures c.most.ensures c.less_band.ensures c.less_band-2.ensures
