-- `job_run::on_line` meets its contract. Assumes nothing.
use Rattle.job_run.proofs.Lines.{line-went, line_refused}
use Rattle.job_run.proofs.on_line.Goals as goal

pub returns-in-Err : goal.returns-in-Err
returns-in-Err c = line_refused c.args.run c.args.line.now _ c.requires _ _ _ _ _ c.carry_out-carried.ensures.carries_lent _ _ c.in-Err.is c.refuse.ensures

pub returns-in-Ok : goal.returns-in-Ok
returns-in-Ok c = line-went c.args.run c.args.line.now _ c.requires _ _ _ _ _ c.carry_out-carried.ensures.carries_lent _ _ c.in-Ok.is c.wrapping_add_u64.ensures.value
