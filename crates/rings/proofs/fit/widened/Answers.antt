-- `rings::fit::widened` meets its contract. Assumes nothing.
use mathlib.Core.Path.{sym, ◌∙◌}
use Rattle.floats.specs.Pick.{pick_true, pick-false}
use Rattle.rings.specs.Block.{box_with}
use Rattle.rings.proofs.Flat.{same-ring}
use Rattle.rings.proofs.fit.widened.Goals as goal

pub returns-then-first : goal.returns-then-first
unfolding box_with
returns-then-first c = sym (pick_true _ _ _ c.if-first.true)

pub returns : goal.returns
unfolding box_with
returns c = same-ring c.least.ensures c.greatest.ensures c.least-2.ensures c.greatest-2.ensures ∙ sym (pick-false _ _ _ c.if-first.false)
