-- `job_run::take_part` meets its contract. Assumes nothing.
use Rattle.std.proofs.Common.{rules}
use Rattle.job_run.proofs.take_part.Goals as goal

pub returns : goal.returns
returns c = record { room = record { cells = search rules; rings = search rules; line = search rules }; same = c.take_bytes.ensures }
