-- `job_run::line::take_bar` meets its contract. Assumes nothing.
use Rattle.std.proofs.Common.{sym, arith, length-take-le}
use Rattle.job_run.proofs.Carrying.{exits, bar-refused, bar-short, bar-unrefused, bar-made}
use Rattle.job_run.proofs.line.take_bar.Goals as goal

pub returns-in_err-n : goal.returns-in_err-n
returns-in_err-n c = rw (exits _ _ c.from_residual.ensures.1) (bar-refused _ _ _ _ _ c.validate.ensures c.in_err-n.was)

pub returns-then-cells-n : goal.returns-then-cells-n
returns-then-cells-n c = bar-short _ _ _ _ _ c.validate.ensures c.in_ok-n.was c.if-cells-n.true

pub slice_bounds-fill-end-2 : goal.slice_bounds-fill-end-2
slice_bounds-fill-end-2 c = sym (length-take-le _ _ (omega arith))

pub returns-in_err-stock : goal.returns-in_err-stock
returns-in_err-stock c = absurd (bar-unrefused _ _ _ _ _ _ _ c.validate.ensures c.in_ok-n.was c.if-cells-n.false c.fill.ensures _ c.in_err-stock.was)

pub returns : goal.returns
returns c = bar-made _ _ _ _ _ _ _ c.validate.ensures c.in_ok-n.was c.if-cells-n.false c.fill.ensures _ c.in_ok-stock.was
