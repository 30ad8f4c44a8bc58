-- `text::plain::nine_digits` meets its contract. Assumes nothing.
use Rattle.std.proofs.Common.{◌<◌, sym, ◌∙◌, arith, rules}
use Rattle.text.proofs.Nine.{digit-on, nine-most, digit-least, nine-fits, ten-times, power-on, nine-turns, rounded-up, rounded-down}
use Rattle.text.proofs.plain.nine_digits.Goals as goal

pub overflow_mul-n : goal.overflow_mul-n
overflow_mul-n c = let o = c.loop in let h : o.n < 1000000000 = nine-most o.n o.counter o.invariant.2 (omega arith) in search rules

pub overflow_add-n : goal.overflow_add-n
overflow_add-n c = let o = c.loop in record { fits = nine-fits o.n _ (nine-most o.n o.counter o.invariant.2 (omega arith)) (digit-least o.h o.l o.invariant.0 o.invariant.1) }

pub loop-preserved : goal.loop-preserved
loop-preserved c = let o = c.loop in
    (search rules, search rules, digit-on _ _ _ o.invariant.2 (digit-least _ _ o.invariant.0 o.invariant.1), ten-times o.n o.h o.l ∙ power-on _ o.counter _ o.invariant.3)

pub overflow_add-result : goal.overflow_add-result
overflow_add-result c = let o = c.loop in omega (arith, nine-most o.n o.counter o.invariant.2 (omega arith))

pub returns-then-is_up : goal.returns-then-is_up
returns-then-is_up c = let o = c.loop in
    rounded-up _ o.n o.h o.l o.invariant.0 o.invariant.1 (nine-turns _ o.counter _ (omega arith) c.loop-test.false o.invariant.3) (sym c.is_up.ensures ∙ c.if-is_up.true)

pub returns : goal.returns
returns c = let o = c.loop in
    rounded-down _ o.n o.h o.l o.invariant.0 o.invariant.1 (nine-turns _ o.counter _ (omega arith) c.loop-test.false o.invariant.3) (sym c.is_up.ensures ∙ c.if-is_up.false)
