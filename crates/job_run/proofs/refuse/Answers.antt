-- `job_run::refuse` meets its contract. Assumes nothing.
use Rattle.std.proofs.Common.{◌∙◌}
use Rattle.job_run.proofs.Lines.{refused-is}
use Rattle.job_run.proofs.refuse.Goals as goal

pub returns : goal.returns
returns c = refused-is c.args.run c.args.refusal _ _ c.wrapping_add_u64.ensures.value (c.from.ensures ∙ c.number.ensures)
