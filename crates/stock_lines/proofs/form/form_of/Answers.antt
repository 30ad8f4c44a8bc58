-- `stock_lines::form::form_of` meets its contract. Assumes nothing.
use Rattle.stock_lines.proofs.Steps.{form-few, form-many}
use Rattle.stock_lines.proofs.form.form_of.Goals as goal

pub returns-then-number-ge3 : goal.returns-then-number-ge3
returns-then-number-ge3 c = form-many _ c.if-number-ge3.true

pub returns : goal.returns
returns c = form-few _ c.if-number-ge3.false
