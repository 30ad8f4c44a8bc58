-- `insert::candidates::Attempt::with_candidate` meets its contract. Assumes nothing.
use mathlib.Core.Path.{sym, ap, ◌∙◌}
use Rattle.floats.specs.Pick.{pick_true, pick-false}
use Rattle.envelope.specs.Envelope.{higher}
use Rattle.insert.specs.Insert.{with_candidate}
use Rattle.insert.proofs.candidates.Attempt.with_candidate.Goals as goal

pub returns-then-a-u : goal.returns-then-a-u
unfolding with_candidate
returns-then-a-u c = let a = c.args in
    c.higher.ensures ∙ (ap (higher (a.found)) c.touch_at.ensures ∙ sym (pick_true _ _ _ c.if-a-u.true))

pub returns : goal.returns
unfolding with_candidate
returns c = sym (pick-false _ _ _ c.if-a-u.false)
