-- `side_by_side::refused::refused_three` meets its contract. Assumes nothing.
use mathlib.Core.Path.{refl}
use native.Mathlib.Omega.{arith}
use Rattle.text.proofs.Sets.{and_then, put-wrote}
use Rattle.text.proofs.Spelling.{decimal-short}
use Rattle.side_by_side.specs.Refused.{tabbed, refused_with}
use Rattle.side_by_side.proofs.refused.refused_three.Goals as goal

pub returns : goal.returns
unfolding refused_with tabbed
returns c = let s = c.args in
    let h1 = decimal-short s.file in
    let h2 = decimal-short s.line in
    let h3 = decimal-short s.n in
    let w0 = put-wrote 8 refl (omega arith) c.put-e0.ensures in
    let w1 = put-wrote _ refl (omega (arith, w0.end)) c.put_decimal-e1.ensures in
    let w2 = put-wrote 1 refl (omega (arith, w0.end, w1.end)) c.put-e2.ensures in
    let w3 = put-wrote _ refl (omega (arith, w0.end, w1.end, w2.end)) c.put_decimal-e3.ensures in
    let w4 = put-wrote 1 refl (omega (arith, w0.end, w1.end, w2.end, w3.end)) c.put-e4.ensures in
    let w5 = put-wrote _ refl (omega (arith, w0.end, w1.end, w2.end, w3.end, w4.end)) c.put_decimal-e5.ensures in
    let w6 = put-wrote 1 refl (omega (arith, w0.end, w1.end, w2.end, w3.end, w4.end, w5.end)) c.put.ensures in
    record {
      wrote = and_then w0 (and_then w1 (and_then w2 (and_then w3 (and_then w4 (and_then w5 w6)))));
      within = omega (arith, w0.end, w1.end, w2.end, w3.end, w4.end, w5.end, w6.end);
    }
