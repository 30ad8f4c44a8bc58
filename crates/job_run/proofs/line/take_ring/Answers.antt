-- `job_run::line::take_ring` meets its contract. Assumes nothing.
use Rattle.std.proofs.Common.{refl, ap}
use Rattle.refusals.specs.Number.{reason_in}
use Rattle.rings.specs.Remove.{removed_paper}
use Rattle.job_run.proofs.Carrying.{ring-refused, ring-went}
use Rattle.job_run.proofs.line.take_ring.Goals as goal

pub returns-in-Err : goal.returns-in-Err
returns-in-Err c = ring-refused _ _ _ _ _ _ c.remove_ring-removed.ensures c.in-Err.e.why (reason_in c.in-Err.e) refl (ap removed_paper c.in-Err.is)

pub returns-in-Ok : goal.returns-in-Ok
returns-in-Ok c = ring-went _ _ _ _ _ _ c.remove_ring-removed.ensures _ c.in-Ok.is
