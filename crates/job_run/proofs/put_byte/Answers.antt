-- `job_run::put_byte` meets its contract. Assumes nothing.
use Rattle.std.proofs.Common.{sym, arith}
use lib.Seq.{set_out}
use Rattle.job_run.proofs.put_byte.Goals as goal

pub returns-else-at-line : goal.returns-else-at-line
returns-else-at-line c = sym (set_out _ _ _ (omega arith))
