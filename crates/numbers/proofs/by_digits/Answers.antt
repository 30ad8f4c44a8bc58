-- `numbers::by_digits` meets its contract (`Turn.antt` has the loop's turn). Assumes nothing.
use Rattle.std.proofs.Common.{◌-◌, ◌*◌, ◌^◌, ◌∙◌, add-one, arith}
use Rattle.numbers.proofs.Roots.{nearest-up, nearest-stay}
use Rattle.numbers.proofs.Turn.{Inv, up, stay, done}
use Rattle.numbers.proofs.by_digits.Goals as goal
use Rattle.numbers.proofs.by_digits.Goals.{then-r-rem, else-r-rem}

pub loop-preserved : goal.loop-preserved
loop-preserved c =
    elim c.if-r-rem.branch [
      | then-r-rem w ↦ rw (w.r-is, w.rem-is) (up c.args.m c.loop.w c.loop.r c.loop.rem c.loop.counter c.loop.invariant c.loop-test.true w.if-r-rem.true)
      | else-r-rem w ↦ rw (w.r-is, w.rem-is) (stay c.args.m c.loop.w c.loop.r c.loop.rem c.loop.counter c.loop.invariant c.loop-test.true w.if-r-rem.false)
    ]

pub returns-then-r-rem-2 : goal.returns-then-r-rem-2
returns-then-r-rem-2 c = add-one c.loop.r
    ∙ nearest-up (c.args.m * 2 ^ 52) c.loop.r c.loop.rem
    (done c.args.m c.loop.w c.loop.r c.loop.rem c.loop.counter c.loop.invariant c.loop-test.false)
    c.loop.invariant.2
    c.if-r-rem-2.true

pub returns-else-r-rem-2 : goal.returns-else-r-rem-2
returns-else-r-rem-2 c = nearest-stay (c.args.m * 2 ^ 52) c.loop.r c.loop.rem
    (done c.args.m c.loop.w c.loop.r c.loop.rem c.loop.counter c.loop.invariant c.loop-test.false)
    c.loop.invariant.2
    c.if-r-rem-2.false
