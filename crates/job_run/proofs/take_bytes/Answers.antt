-- `job_run::take_bytes` meets its contract. Assumes nothing.
use Rattle.job_run.proofs.Bytes.{bytes-step, bytes-end}
use Rattle.std.proofs.Common.{sym, refl, ◌∙◌, rules}
use Rattle.job_run.proofs.take_bytes.Goals as goal

pub loop-i-init : goal.loop-i-init
loop-i-init c = (search rules, search rules, search rules, refl, refl, refl)

pub loop-i-preserved : goal.loop-i-preserved
loop-i-preserved c = (search rules, search rules, search rules, search rules, search rules, c.loop-i.invariant.5 ∙ bytes-step _ _ _ _ c.loop-i-test.true c.take_byte-t.ensures)

pub returns : goal.returns
returns c = sym (c.loop-i.invariant.5 ∙ bytes-end _ _ _ c.loop-i-test.false)
