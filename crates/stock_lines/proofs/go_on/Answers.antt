-- `stock_lines::go_on` meets its contract. Assumes nothing.
use Rattle.std.proofs.Common.{ap, ◌∙◌}
use Rattle.stock_lines.specs.declared.form.Form.{Form}
use Rattle.stock_lines.specs.Reading.{count_to}
use Rattle.stock_lines.proofs.Readings.{went-cell, went-ring, went-end, went-none}
use Rattle.stock_lines.proofs.go_on.Goals as goal

pub returns-in-Cell : goal.returns-in-Cell
returns-in-Cell c = let r = c.args.reading in
    c.onward.ensures ∙ went-cell r _ _ c.in-Cell.is (c.count_to.ensures ∙ ap (λ (x : Form). count_to x.most r.cells) c.form_of-f.ensures)

pub returns-in-Ring : goal.returns-in-Ring
returns-in-Ring c = c.onward-in-Ring.ensures ∙ went-ring _ _ _ c.in-Ring.is c.count_to-in-Ring.ensures

pub returns-in-End : goal.returns-in-End
returns-in-End c = c.onward-in-End.ensures ∙ went-end _ _ c.in-End.is

pub returns-in-NoLine : goal.returns-in-NoLine
returns-in-NoLine c = c.refuse.ensures ∙ went-none _ _ c.in-NoLine.is
