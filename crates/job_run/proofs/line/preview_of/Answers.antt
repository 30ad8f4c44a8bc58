-- `job_run::line::preview_of` meets its contract. Assumes nothing.
use Rattle.job_run.proofs.Made.{same-cut}
use Rattle.job_run.proofs.line.preview_of.Goals as goal

pub returns-in-Thread : goal.returns-in-Thread
returns-in-Thread c = same-cut _ _ _ _ _ c.in-Thread.is c.thread_cut.ensures

pub returns-in-ThreadInner : goal.returns-in-ThreadInner
returns-in-ThreadInner c = same-cut _ _ _ _ _ c.in-ThreadInner.is c.thread_cut_inner.ensures

pub returns-in-Drill : goal.returns-in-Drill
returns-in-Drill c = same-cut _ _ _ _ _ c.in-Drill.is c.drill.ensures
