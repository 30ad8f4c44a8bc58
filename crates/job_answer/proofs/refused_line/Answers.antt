-- `job_answer::refused_line` meets its contract. Assumes nothing.
use mathlib.Core.Path.{refl}
use native.Mathlib.Omega.{arith}
use Rattle.text.proofs.Sets.{and_then, put-wrote}
use Rattle.text.proofs.Spelling.{decimal-short}
use Rattle.job_answer.specs.Lines.{refused_line}
use Rattle.job_answer.proofs.refused_line.Goals as goal

pub returns : goal.returns
unfolding refused_line
returns c = let s = c.args in
    let h = decimal-short s.k in
    let h' = decimal-short s.n in
    let w0 = put-wrote 8 refl (omega arith) c.put-e0.ensures in
    let w1 = put-wrote _ refl (omega (arith, w0.end)) c.put_decimal-e1.ensures in
    let w2 = put-wrote 1 refl (omega (arith, w0.end, w1.end)) c.put-e2.ensures in
    let w3 = put-wrote _ refl (omega (arith, w0.end, w1.end, w2.end)) c.put_decimal-e3.ensures in
    let w4 = put-wrote 1 refl (omega (arith, w0.end, w1.end, w2.end, w3.end)) c.put.ensures in
    record {
      wrote = and_then w0 (and_then w1 (and_then w2 (and_then w3 w4)));
      within = omega (arith, w0.end, w1.end, w2.end, w3.end, w4.end);
    }
