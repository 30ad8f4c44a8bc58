-- `job_streams::cut_at` meets its contract. Assumes nothing.
use mathlib.Core.Path.{sym}
use borrow.Author.Tests.{eq-eqb, ne_eqb}
use Rattle.floats.specs.Pick.{pick_true, pick-false}
use Rattle.job_streams.proofs.cut_at.Goals as goal

pub returns-then-refused-eq0 : goal.returns-then-refused-eq0
returns-then-refused-eq0 c = sym (pick_true _ _ _ (eq-eqb _ _ c.if-refused-eq0.true))

pub returns-else-refused-eq0 : goal.returns-else-refused-eq0
returns-else-refused-eq0 c = sym (pick-false _ _ _ (ne_eqb _ _ c.if-refused-eq0.false))
