-- `text::sixteen::digits_at` meets its contract. The loop's invariant: what the digits passed say. Assumes nothing.
use Rattle.std.proofs.Common.{drop, refl, arith}
use Rattle.text.specs.Hex.{hexes_to, value_to}
use Rattle.text.proofs.Reading.{hexes-more, value-more, value_room, digits-read, digits-none}
use Rattle.text.proofs.sixteen.digits_at.Goals as goal

pub loop-i-init : goal.loop-i-init
unfolding hexes_to value_to
loop-i-init c = (refl, refl)

pub overflow_mul-n : goal.overflow_mul-n
overflow_mul-n c = omega (arith, value_room (drop c.args.at c.args.s.now) c.loop-i.i (omega arith))

pub overflow_add-n : goal.overflow_add-n
overflow_add-n c = omega (arith, value_room (drop c.args.at c.args.s.now) c.loop-i.i (omega arith))

pub loop-i-preserved : goal.loop-i-preserved
loop-i-preserved c = (
  rw (hexes-more _ _ _ _ c.nibble-d.ensures, ← c.loop-i.invariant.0) refl,
  rw (value-more _ _ _ _ c.nibble-d.ensures, ← c.loop-i.invariant.1) refl,
)

pub returns-then-ok : goal.returns-then-ok
returns-then-ok c = digits-read _ _ _ _ _ (omega arith) c.loop-i.invariant.0 c.loop-i.invariant.1 c.if-ok.true

pub returns : goal.returns
returns c = digits-none _ _ _ _ (omega arith) c.loop-i.invariant.0 c.if-ok.false
