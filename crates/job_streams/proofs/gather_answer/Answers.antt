-- `job_streams::gather_answer` meets its contract. Assumes nothing.
use Rattle.std.proofs.Common.{arith}
use Rattle.job_streams.proofs.Putting.{put-none, put-more, put_all}
use Rattle.job_streams.proofs.gather_answer.Goals as goal

pub loop-k-init : goal.loop-k-init
loop-k-init g c = ((λ h. absurd (omega (arith, h))), put-none _ _ c.fresh-out.ensures.0)

pub loop-k-preserved : goal.loop-k-preserved
loop-k-preserved g c = let i = c.loop-k.invariant in ((λ h. c.put_line-out.ensures.most), put-more _ i.1 c.put_line-out.ensures)

pub returns : goal.returns
returns g c = let i = c.loop-k.invariant in put_all _ {k = c.loop-k.k} i.1 (omega (arith, c.loop-k-test.false, i.0 (omega (arith, c.loop-k-test.false))))
