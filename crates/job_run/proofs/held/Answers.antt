-- `job_run::held` meets its contract. Assumes nothing.
use Rattle.std.proofs.Common.{sym, arith, length-take-le, take_all}
use Rattle.job_run.proofs.held.Goals as goal

pub returns-then-line-len : goal.returns-then-line-len
returns-then-line-len c = sym (take_all c.args.len c.args.line.now (omega arith))

pub slice_bounds-result-end : goal.slice_bounds-result-end
slice_bounds-result-end c = sym (length-take-le _ _ (omega arith))
