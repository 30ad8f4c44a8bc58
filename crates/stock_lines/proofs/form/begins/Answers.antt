-- `stock_lines::form::begins` meets its contract. Assumes nothing.
use Rattle.std.proofs.Common.{sym, ◌∙◌, arith, length-take-le}
use Rattle.stock_lines.proofs.Steps.{begins-not, begins-same}
use Rattle.stock_lines.proofs.form.begins.Goals as goal

pub returns-then-line-n : goal.returns-then-line-n
returns-then-line-n c = begins-not _ _ _ c.if-line-n.true

pub slice_bounds-same-end : goal.slice_bounds-same-end
slice_bounds-same-end c = sym (length-take-le _ _ (omega arith))

pub returns : goal.returns
returns c = c.same.ensures ∙ begins-same _ _ _ c.if-line-n.false
