-- `text::sixteen::read_eight` meets its contract. Assumes nothing.
use Rattle.std.proofs.Common.{sym, ◌∙◌, arith}
use Rattle.text.proofs.Reading.{number_spelled, number-none, eight-other, eight-none, eight-of, eight-small}
use Rattle.text.proofs.sixteen.read_eight.Goals as goal

pub returns-then-s-ne8 : goal.returns-then-s-ne8
returns-then-s-ne8 c = eight-other _ c.if-s-ne8.true

pub returns-in_err-n : goal.returns-in_err-n
returns-in_err-n c = rw c.from_residual.ensures (eight-none _ c.if-s-ne8.false (number-none 8 _ (sym c.digits_at.ensures ∙ c.in_err-n.was)))

pub overflow_cast-result : goal.overflow_cast-result
overflow_cast-result c = let w = number_spelled 8 _ _ (sym c.digits_at.ensures ∙ c.in_ok-n.was) in
    record { fits = omega (arith, w.value, eight-small c.args.s.now) }

pub returns : goal.returns
returns c = eight-of _ _ c.if-s-ne8.false (number_spelled 8 _ _ (sym c.digits_at.ensures ∙ c.in_ok-n.was))
