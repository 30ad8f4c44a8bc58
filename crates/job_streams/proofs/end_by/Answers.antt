-- `job_streams::end_by` meets its contract. Assumes nothing.
use Rattle.job_streams.proofs.Taking.{end_is}
use Rattle.job_streams.proofs.end_by.Goals as goal

pub returns-in-End : goal.returns-in-End
returns-in-End c = end_is _ _ c.in-End.is c.at_end.ensures

pub returns-in-Cut : goal.returns-in-Cut
returns-in-Cut c = end_is _ _ c.in-Cut.is c.cut_off.ensures

pub returns-in-Bytes : goal.returns-in-Bytes
returns-in-Bytes c = end_is _ _ c.in-Bytes.is c.cut_off-in-Bytes.ensures
