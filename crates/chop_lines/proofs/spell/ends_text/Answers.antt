-- `chop_lines::spell::ends_text` meets its contract. Assumes nothing.
use Rattle.std.proofs.Common.{refl, arith}
use Rattle.text.proofs.Sets.{and_then, put-wrote}
use Rattle.chop_lines.specs.Spelled.{ends_text}
use Rattle.chop_lines.proofs.Putting.{micro-short}
use Rattle.chop_lines.proofs.spell.ends_text.Goals as goal

pub put_field-b-requires : goal.put_field-b-requires
put_field-b-requires c = omega (arith, c.put_field-a.ensures.end, micro-short c.args.ar)

pub put_field-c-requires : goal.put_field-c-requires
put_field-c-requires c = let s = c.args in
    omega (arith, c.put_field-a.ensures.end, c.put_field-b.ensures.end, micro-short s.ar, micro-short s.az)

pub put_field-d-requires : goal.put_field-d-requires
put_field-d-requires c = let s = c.args in
    omega (arith, c.put_field-a.ensures.end, c.put_field-b.ensures.end, c.put_field-c.ensures.end, micro-short s.ar, micro-short s.az, micro-short s.br)

pub returns : goal.returns
unfolding ends_text
returns c = let s = c.args in
    let m1 = micro-short s.ar in
    let m2 = micro-short s.az in
    let m3 = micro-short s.br in
    let m4 = micro-short s.bz in
    let w1 = c.put_field-a.ensures in
    let w2 = c.put_field-b.ensures in
    let w3 = c.put_field-c.ensures in
    let w4 = c.put_field-d.ensures in
    let w5 = put-wrote 1 refl (omega (arith, m1, m2, m3, m4, w1.end, w2.end, w3.end, w4.end)) c.put.ensures in
    record {
      wrote = and_then w1 (and_then w2 (and_then w3 (and_then w4 w5)));
      within = omega (arith, m1, m2, m3, m4, w1.end, w2.end, w3.end, w4.end, w5.end);
    }
