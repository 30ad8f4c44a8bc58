-- `envelope::span_of` meets its contract. Assumes nothing.
use Rattle.envelope.proofs.Steps.{reads}
use Rattle.envelope.proofs.Kept.{span-up, span-down, span-all}
use Rattle.envelope.proofs.span_of.Goals as goal

pub returns-then-order-eq1 : goal.returns-then-order-eq1
returns-then-order-eq1 c = let a = c.args in
    simp (c.split.ensures, c.split-then-order-eq1.ensures) (span-up a.points.now a.order a.lo a.hi (reads a.order 1 c.ranges.order c.if-order-eq1.true))

pub returns-then-order-eqminus1 : goal.returns-then-order-eqminus1
returns-then-order-eqminus1 c = let a = c.args in
    simp (c.split-then-order-eqminus1.ensures, c.split-then-order-eqminus1-2.ensures) (span-down a.points.now a.order a.lo a.hi (reads a.order 255 c.ranges.order c.if-order-eqminus1.true))

pub returns : goal.returns
returns c = let a = c.args in
    span-all a.points.now a.order a.lo a.hi (λ e. c.if-order-eq1.false (rw e)) (λ e. c.if-order-eqminus1.false (rw e))
