-- `job_run::front` meets its contract. Assumes nothing.
use Rattle.std.proofs.Common.{◌*◌, sym, arith, length-take-le, take_all}
use Rattle.job_run.proofs.front.Goals as goal

pub returns-then-xs-n : goal.returns-then-xs-n
returns-then-xs-n c = sym (take_all (4 * c.args.n) c.args.xs.now (omega arith))

pub slice_bounds-result-end : goal.slice_bounds-result-end
slice_bounds-result-end c = sym (length-take-le _ _ (omega arith))
