-- `job_streams::read_job` meets its contract. Assumes nothing.
use Rattle.job_run.specs.Run.{state, hold}
use Rattle.job_streams.specs.Read.{After}
use Rattle.job_streams.proofs.read_job.Given as goal

abbrev pub invariant-loop : goal.invariant-loop
invariant-loop g l = After (hold (state l.initial.run l.initial.cells l.initial.rings) l.initial.line 0) (hold (state l.run l.cells l.rings) l.line l.len)
