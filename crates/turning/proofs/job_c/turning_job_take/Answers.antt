-- `turning::job_c::turning_job_take` meets its contract. Assumes nothing.
use Rattle.turning.proofs.Keeping.{takes-job}
use Rattle.turning.proofs.job_c.turning_job_take.Goals as goal

pub returns : goal.returns
returns c = let a = c.args in
    takes-job a.state.now _ a.bar.now _ a.cells.now _ a.rings.now _ a.line.now _ a.bytes.now _ _ _ _ c.run_of-run.ensures c.held_in-held.ensures c.take_part-taken.ensures.same c.keep.ensures
