-- `stock::cell_at` meets its contract. Assumes nothing.
use Rattle.std.proofs.Common.{◌*◌, sym, ◌∙◌, arith}
use Rattle.stock.proofs.Cells.{no_cell}
use Rattle.stock.proofs.cell_at.Goals as goal

pub returns-then-whole-i : goal.returns-then-whole-i
returns-then-whole-i c = c.no_cell.ensures ∙ sym (no_cell c.args.cells.now (4 * c.args.i) (omega arith))

pub returns : goal.returns
returns c = simp (c.number_at-4.ensures, c.number_at-3.ensures, c.number_at-2.ensures, c.number_at.ensures)
