-- `turning::job_c::turning_job_output` meets its contract. Assumes nothing.
use Rattle.turning.proofs.Keeping.{writes-job}
use Rattle.turning.proofs.job_c.turning_job_output.Goals as goal

pub returns : goal.returns
returns c = let a = c.args in writes-job a.state.now _ c.end_of.ensures a.cells.now a.rings.now a.k _ _ _ c.output_line.ensures.writes_line
