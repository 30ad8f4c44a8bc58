-- `job_streams::cut_off` meets its contract. Assumes nothing.
use Rattle.job_streams.proofs.Taking.{cut-end}
use Rattle.job_streams.proofs.cut_off.Goals as goal

pub returns : goal.returns
returns c = cut-end _ c.finish.ensures c.cut_at-end.ensures
