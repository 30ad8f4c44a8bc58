-- `stock_lines::form::is_end_line` meets its contract. Assumes nothing.
use Rattle.std.proofs.Common.{refl, ap, ◌∙◌}
use Rattle.text.specs.Same.{same_bytes}
use Rattle.stock_lines.proofs.Steps.{line-front, line-fits, line-length}
use Rattle.stock_lines.proofs.form.is_end_line.Goals as goal

pub slice_bounds-p-end : goal.slice_bounds-p-end
slice_bounds-p-end c = line-fits refl c.put_end-n.ensures

pub slice_bounds-same-end : goal.slice_bounds-same-end
slice_bounds-same-end c = line-length refl c.put_end-n.ensures

pub returns : goal.returns
returns c = c.same.ensures ∙ ap (same_bytes _) (line-front refl c.put_end-n.ensures)
