-- `job_run::finish` meets its contract. Assumes nothing.
use Rattle.job_run.proofs.Lines.{finish-stopped, finish-cut, finish-empty, finish-done}
use Rattle.std.proofs.Common.{sym, ◌∙◌}
use Rattle.job_run.proofs.finish.Goals as goal

pub returns-then-run-ne0 : goal.returns-then-run-ne0
returns-then-run-ne0 c = finish-stopped _ _ c.if-run-ne0.true

pub returns-then-len-ne0 : goal.returns-then-len-ne0
returns-then-len-ne0 c = c.refuse.ensures ∙ finish-cut _ _ c.if-run-ne0.false c.if-len-ne0.true

pub returns-then-is_empty : goal.returns-then-is_empty
returns-then-is_empty c = c.refuse-then-is_empty.ensures ∙ finish-empty _ _ c.if-run-ne0.false c.if-len-ne0.false (sym c.is_empty.ensures ∙ c.if-is_empty.true)

pub returns : goal.returns
returns c = finish-done _ _ c.if-run-ne0.false c.if-len-ne0.false (sym c.is_empty.ensures ∙ c.if-is_empty.false)
