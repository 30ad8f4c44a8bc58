-- `chop_lines::spell::front_text` meets its contract. Assumes nothing.
use Rattle.std.proofs.Common.{refl, ap, arith}
use Rattle.text.specs.Digits.{decimal_of}
use Rattle.text.proofs.Sets.{and_then, put-wrote, retext}
use Rattle.text.proofs.Spelling.{decimal-short}
use Rattle.chop_lines.specs.Spelled.{front_text}
use Rattle.chop_lines.proofs.Putting.{words_long, micro-short}
use Rattle.chop_lines.proofs.spell.front_text.Goals as goal

pub put_field-b-requires : goal.put_field-b-requires
put_field-b-requires c = omega (arith, c.put_words-a.ensures.wrote.end, words_long c.args.side)

pub returns : goal.returns
unfolding front_text
returns c = let s = c.args in
    let h = words_long s.side in
    let m = micro-short s.rn in
    let d = decimal-short c.sag_up.result in
    let w0 = c.put_words-a.ensures.wrote in
    let w1 = c.put_field-b.ensures in
    let w2 = put-wrote 1 refl (omega (arith, h, m, w0.end, w1.end)) c.put-c.ensures in
    let w3 = put-wrote _ refl (omega (arith, h, m, d, w0.end, w1.end, w2.end)) c.put_decimal.ensures in
    record {
      wrote = and_then w0 (and_then w1 (and_then w2 (retext (ap decimal_of c.sag_up.ensures) w3)));
      within = omega (arith, h, m, d, w0.end, w1.end, w2.end, w3.end);
    }
