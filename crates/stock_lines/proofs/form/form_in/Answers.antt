-- `stock_lines::form::form_in` meets its contract. Assumes nothing.
use Rattle.stock_lines.proofs.Firsts.{form-short, form-two, form-three, form-other}
use Rattle.stock_lines.proofs.form.form_in.Goals as goal

pub returns-then-line-lt7 : goal.returns-then-line-lt7
returns-then-line-lt7 c = form-short _ c.if-line-lt7.true

pub returns-then-b-eq50 : goal.returns-then-b-eq50
returns-then-b-eq50 c = form-two _ c.if-b-eq50.true

pub returns-then-b-eq51 : goal.returns-then-b-eq51
returns-then-b-eq51 c = form-three _ c.if-b-eq50.false c.if-b-eq51.true

pub returns : goal.returns
returns c = form-other _ c.if-b-eq50.false c.if-b-eq51.false
