-- `text::sixteen::hex_at` meets its contract. Assumes nothing.
use Rattle.std.proofs.Common.{sym, ap, ◌∙◌, Some}
use lib.Ieee.{of_bits, binary64}
use Rattle.text.proofs.Reading.{number_spelled, number-none, hex-none, hex-minus, hex-of}
use Rattle.text.proofs.sixteen.hex_at.Goals as goal

pub returns-in_err-n : goal.returns-in_err-n
returns-in_err-n c = rw c.from_residual.ensures (sym (hex-none _ (number-none 16 _ (sym c.digits_at.ensures ∙ c.in_err-n.was))))

pub returns-then-n : goal.returns-then-n
returns-then-n c = let w = number_spelled 16 _ _ (sym c.digits_at.ensures ∙ c.in_ok-n.was) in
    sym (hex-minus _ w.hexes (sym w.value ∙ c.if-n.true))

pub returns : goal.returns
returns c = let w = number_spelled 16 _ _ (sym c.digits_at.ensures ∙ c.in_ok-n.was) in
    ap Some (c.float.ensures ∙ ap (of_bits binary64) w.value) ∙ sym (hex-of _ w.hexes (λ q. c.if-n.false (w.value ∙ q)))
