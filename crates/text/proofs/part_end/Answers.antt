-- `text::part_end` meets its contract. Assumes nothing.
use Rattle.std.proofs.Common.{refl, arith}
use Rattle.text.proofs.Parting.{end-tab, end-byte, end-end}
use Rattle.text.proofs.part_end.Goals as goal

pub loop-e-init : goal.loop-e-init
loop-e-init c = refl

pub returns-then-s-e : goal.returns-then-s-e
returns-then-s-e c = omega (arith, end-tab c.args.p c.args.s.now c.loop-e.e c.loop-e-test.true c.if-s-e.true)

pub loop-e-preserved : goal.loop-e-preserved
loop-e-preserved c = omega (arith, end-byte c.args.p c.args.s.now c.loop-e.e c.loop-e-test.true c.if-s-e.false)

pub returns : goal.returns
returns c = omega (arith, end-end c.args.p c.args.s.now c.loop-e.e c.loop-e-test.false)
