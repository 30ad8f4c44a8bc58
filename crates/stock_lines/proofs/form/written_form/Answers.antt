-- `stock_lines::form::written_form` meets its contract. Assumes nothing.
use Rattle.stock_lines.proofs.Steps.{written-few, written-many}
use Rattle.stock_lines.proofs.form.written_form.Goals as goal

pub returns-then-n-le-FEW_CELLS : goal.returns-then-n-le-FEW_CELLS
returns-then-n-le-FEW_CELLS c = written-few _ c.if-n-le-FEW_CELLS.true

pub returns : goal.returns
returns c = written-many _ c.if-n-le-FEW_CELLS.false
