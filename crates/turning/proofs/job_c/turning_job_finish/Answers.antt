-- `turning::job_c::turning_job_finish` meets its contract. Assumes nothing.
use Rattle.turning.proofs.Keeping.{ends-well, ends-refused}
use Rattle.turning.proofs.job_c.turning_job_finish.Goals as goal

pub returns-then-end-eq0 : goal.returns-then-end-eq0
returns-then-end-eq0 c = ends-well c.args.state.now _ c.end_of-end.ensures _ c.if-end-eq0.true

pub returns : goal.returns
returns c = ends-refused c.args.state.now _ c.end_of-end.ensures _ _ c.if-end-eq0.false c.short.ensures
