-- `job_streams::at_end` meets its contract. Assumes nothing.
use Rattle.job_streams.proofs.Taking.{whole-end}
use Rattle.job_streams.proofs.at_end.Goals as goal

pub returns : goal.returns
returns c = whole-end _ _ c.finish.ensures c.end_at-end.ensures
