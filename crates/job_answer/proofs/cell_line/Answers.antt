-- `job_answer::cell_line` meets its contract. Assumes nothing.
use mathlib.Core.Path.{refl}
use native.Mathlib.Omega.{arith}
use Rattle.text.proofs.Sets.{and_then, put-wrote}
use Rattle.text.proofs.Spelling.{decimal-short, four-long}
use Rattle.job_answer.specs.Lines.{cell_line}
use Rattle.job_answer.proofs.cell_line.Goals as goal

pub returns : goal.returns
unfolding cell_line
returns c = let s = c.args in
    let h = decimal-short s.i in
    let w0 = put-wrote 5 refl (omega arith) c.put-e0.ensures in
    let w1 = put-wrote _ refl (omega (arith, w0.end)) c.put_decimal-e1.ensures in
    let w2 = put-wrote 69 (four-long s.a s.b s.c s.d) (omega (arith, w0.end, w1.end)) c.put_four.ensures in
    record { wrote = and_then w0 (and_then w1 w2); within = omega (arith, w0.end, w1.end, w2.end, four-long s.a s.b s.c s.d) }
