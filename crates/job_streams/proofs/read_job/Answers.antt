-- `job_streams::read_job` meets its contract. Assumes nothing.
use Rattle.std.proofs.Common.{arith, rules}
use Rattle.streams.specs.declared.Got.TheVariants.{Cut}
use Rattle.job_streams.proofs.Taking.{after_none, after_more, done}
use Rattle.job_streams.proofs.read_job.Goals as goal

pub loop-init : goal.loop-init
loop-init g c = after_none _

pub returns-then-not-may_be_more : goal.returns-then-not-may_be_more
returns-then-not-may_be_more g c = done _ (search (rules, arith)) (after_more c.loop.invariant c.take_some-t.ensures.after) c.take_some-t.result.got c.end_by.ensures

pub loop-preserved : goal.loop-preserved
loop-preserved g c = after_more c.loop.invariant c.take_some-t.ensures.after

pub returns : goal.returns
returns g c = done _ (search (rules, arith)) c.loop.invariant Cut c.cut_off.ensures
