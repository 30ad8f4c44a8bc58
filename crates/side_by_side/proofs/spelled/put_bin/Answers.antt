-- `side_by_side::spelled::put_bin` meets its contract. Assumes nothing.
use Rattle.side_by_side.proofs.Cells.{bin-put, bin-equal, bin-first}
use Rattle.side_by_side.proofs.spelled.put_bin.Goals as goal

pub returns-then-same_cell : goal.returns-then-same_cell
returns-then-same_cell c = bin-equal _ _ _ _ c.cell_at-a.ensures c.cell_at-b.ensures c.same_cell.ensures c.if-same_cell.true

pub put_cell-requires : goal.put_cell-requires
put_cell-requires c = bin-first _ _ _ _ _ _ c.put_cell-e.ensures

pub returns : goal.returns
returns c = bin-put _ _ _ _ c.cell_at-a.ensures c.cell_at-b.ensures c.same_cell.ensures c.if-same_cell.false c.put_cell-e.ensures c.put_cell.ensures
