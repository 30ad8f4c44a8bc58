-- `job_streams::end_at` meets its contract. Assumes nothing.
use mathlib.Core.Path.{sym}
use borrow.Author.Tests.{eq-eqb, ne_eqb}
use Rattle.floats.specs.Pick.{pick_true, pick-false}
use Rattle.job_streams.proofs.end_at.Goals as goal

pub returns-then-len-eq0 : goal.returns-then-len-eq0
returns-then-len-eq0 c = sym (pick_true _ _ _ (eq-eqb _ _ c.if-len-eq0.true))

pub returns-else-len-eq0 : goal.returns-else-len-eq0
returns-else-len-eq0 c = sym (pick-false _ _ _ (ne_eqb _ _ c.if-len-eq0.false))
