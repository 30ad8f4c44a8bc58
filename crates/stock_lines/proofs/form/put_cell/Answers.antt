-- `stock_lines::form::put_cell` meets its contract. Assumes nothing.
use Rattle.std.proofs.Common.{ap, arith}
use Rattle.text.specs.Digits.{digits}
use Rattle.text.proofs.Sets.{reput}
use Rattle.stock_lines.specs.declared.form.Form.{Form}
use Rattle.stock_lines.proofs.Steps.{cell-short, then-put}
use Rattle.stock_lines.proofs.form.put_cell.Goals as goal

pub returns : goal.returns
returns c = let a = c.args in
    then-put _ _ (omega (arith, cell-short a.form a.index)) c.put-e.ensures (reput (ap (λ (x : Form). digits 10 x.digits a.index) c.form_of-f.ensures) c.put_digits.ensures)
