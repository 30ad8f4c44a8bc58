-- `numbers::is_nearest` meets its contract (`Settle.antt`). Assumes nothing.
use Rattle.std.proofs.Common.{arith, rules, ltb-true}
use Rattle.numbers.proofs.Settle.{high-square, high-low, low-square, quick-is}
use Rattle.numbers.proofs.Answer.{not-both}
use Rattle.numbers.proofs.is_nearest.Goals as goal

pub overflow_mul-h : goal.overflow_mul-h
overflow_mul-h c = omega (arith, high-square c.args.u c.requires.1)

pub overflow_mul-h-then-d-lt536870912 : goal.overflow_mul-h-then-d-lt536870912
overflow_mul-h-then-d-lt536870912 c = omega (arith, high-low c.args.u c.requires.1)

pub overflow_mul-l-then-d-lt536870912 : goal.overflow_mul-l-then-d-lt536870912
overflow_mul-l-then-d-lt536870912 c = omega (arith, low-square c.args.u c.requires.1)

pub overflow_add-h : goal.overflow_add-h
overflow_add-h c = omega (arith, high-low c.args.u c.requires.1, low-square c.args.u c.requires.1)

pub returns-then-d-lt536870912 : goal.returns-then-d-lt536870912
returns-then-d-lt536870912 c t = quick-is c.args.m c.args.u c.wrapping_sub_u64-d.result c.wrapping_sub_u64-e.result
    c.requires.0 c.requires.1 c.wrapping_sub_u64-d.ensures.value c.if-d-lt536870912.true c.wrapping_sub_u64-e.ensures.value (ltb-true _ _ t)

pub returns : goal.returns
returns c t = absurd (not-both t)
