-- `chop_lines::number::put_field` meets its contract. Assumes nothing.
use Rattle.std.proofs.Common.{refl, arith}
use Rattle.text.proofs.Sets.{and_then, put-wrote, retext}
use Rattle.text.proofs.Spelling.{decimal-short}
use Rattle.chop_lines.proofs.Putting.{field-minus, field_plain}
use Rattle.chop_lines.proofs.number.put_field.Goals as goal

pub returns-then-has_minus : goal.returns-then-has_minus
returns-then-has_minus c = let h = decimal-short c.micrometres_of-n.result in
    let w0 = put-wrote 2 refl (omega (arith, c.requires)) c.put-e.ensures in
    let w1 = put-wrote _ refl (omega (arith, c.requires, w0.end)) c.put_decimal.ensures in
    retext (field-minus c.args.x c.micrometres_of-n.ensures c.has_minus.ensures c.if-has_minus.true) (and_then w0 w1)

pub returns : goal.returns
returns c = let h = decimal-short c.micrometres_of-n.result in
    let w0 = put-wrote 1 refl (omega (arith, c.requires)) c.put-e-2.ensures in
    let w1 = put-wrote _ refl (omega (arith, c.requires, w0.end)) c.put_decimal-2.ensures in
    retext (field_plain c.args.x c.micrometres_of-n.ensures c.has_minus.ensures c.if-has_minus.false) (and_then w0 w1)
