-- `stock::put_cell` meets its contract. Assumes nothing.
use Rattle.std.proofs.Common.{length, sym, ap, ◌∙◌, arith, length-set}
use Rattle.stock.proofs.Cells.{put-room, put-none}
use Rattle.stock.proofs.put_cell.Goals as goal

pub returns-then-cells-i : goal.returns-then-cells-i
returns-then-cells-i c = sym (put-none c.args.cells.now c.args.i c.args.c (omega arith))

pub shape_of-cells : goal.shape_of-cells
shape_of-cells c = ap length c.put_from.ensures ∙ simp length-set

pub returns : goal.returns
returns c = c.put_from.ensures ∙ sym (put-room c.args.cells.now c.args.i c.args.c (omega arith))
