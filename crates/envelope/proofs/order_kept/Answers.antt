-- `envelope::order_kept` meets its contract. Assumes nothing.
use mathlib.Core.Path.{sym, ap, ◌∙◌}
use mir.Facts.{to_z-of_z}
use Rattle.refusals.specs.Paper.{answers, demand-true, demand-false}
use Rattle.envelope.specs.Halving.{kept_order}
use Rattle.envelope.proofs.Steps.{reads}
use Rattle.envelope.proofs.Kept.{outside, inside}
use Rattle.envelope.proofs.Rules.{order-kept}
use Rattle.envelope.proofs.order_kept.Goals as goal

pub returns-then-order-eq-OUTSIDE : goal.returns-then-order-eq-OUTSIDE
unfolding kept_order
returns-then-order-eq-OUTSIDE c = order-kept c.args.points.now c.args.order _ (sym (demand-false _ _ _ (outside _ (reads c.args.order 2 c.ranges.order c.if-order-eq-OUTSIDE.true))))

pub returns : goal.returns
unfolding kept_order
returns c = order-kept c.args.points.now c.args.order _ (ap answers (to_z-of_z c.ranges.order) ∙ sym (demand-true _ _ _ (inside c.args.order (λ e. c.if-order-eq-OUTSIDE.false (rw e)))))
