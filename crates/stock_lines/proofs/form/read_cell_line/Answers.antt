-- `stock_lines::form::read_cell_line` meets its contract. Assumes nothing.
use Rattle.std.proofs.Common.{ℕ, List, length, refl, ap, ◌∙◌, arith}
use Rattle.stock_lines.specs.Form.{four_of, line_of}
use Rattle.stock_lines.proofs.Steps.{cell-short, line-front, line-fits, line-length}
use Rattle.stock_lines.proofs.form.read_cell_line.Goals as goal

pub slice_bounds-p-end : goal.slice_bounds-p-end
slice_bounds-p-end c = line-fits refl c.put_cell-n.ensures

pub slice_bounds-read_four-end : goal.slice_bounds-read_four-end
slice_bounds-read_four-end c = line-length refl c.put_cell-n.ensures

pub read_four-requires : goal.read_four-requires
read_four-requires c = let a = c.args in
    omega (arith, cell-short a.form a.index, ap length (line-front refl c.put_cell-n.ensures))

pub returns : goal.returns
returns c = let a = c.args in
    c.read_four.ensures ∙ ap (λ (p : List ℕ). four_of (line_of p 4 a.line.now)) (line-front refl c.put_cell-n.ensures)
