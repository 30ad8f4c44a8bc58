-- `stock_file::written::put_line` meets its contract. Assumes nothing.
use Rattle.stock_lines.specs.Form.{written_form}
use Rattle.stock_file.specs.Write.{opening}
use Rattle.stock_file.proofs.Lined.{reline, no_line, first-line, cell-line, ring-line, last_line, past-line}
use Rattle.stock_file.proofs.written.put_line.Goals as goal

pub returns-then-k-eq0 : goal.returns-then-k-eq0
returns-then-k-eq0 c = reline (first-line _ _ _ _ _ _ c.if-k-eq0.true) c.stock_line.ensures

pub returns-then-i-n : goal.returns-then-i-n
returns-then-i-n c = let a = c.args in reline (cell-line (opening (written_form a.n) a.edition a.bar) a.cells.now a.n a.rings.now a.m a.k c.if-k-eq0.false c.if-i-n.true) c.put_cell.ensures

pub returns-then-j-m : goal.returns-then-j-m
returns-then-j-m c = let a = c.args in reline (ring-line (opening (written_form a.n) a.edition a.bar) a.cells.now a.n a.rings.now a.m a.k c.if-k-eq0.false c.if-i-n.false c.if-j-m.true) c.put_ring.ensures

pub returns-then-j-m-2 : goal.returns-then-j-m-2
returns-then-j-m-2 c = let a = c.args in reline (last_line (opening (written_form a.n) a.edition a.bar) a.cells.now a.n a.rings.now a.m a.k c.if-k-eq0.false c.if-i-n.false c.if-j-m.false c.if-j-m-2.true) c.end_line.ensures

pub returns : goal.returns
returns c = let a = c.args in reline (past-line (opening (written_form a.n) a.edition a.bar) a.cells.now a.n a.rings.now a.m a.k c.if-k-eq0.false c.if-i-n.false c.if-j-m.false c.if-j-m-2.false) (no_line _)
