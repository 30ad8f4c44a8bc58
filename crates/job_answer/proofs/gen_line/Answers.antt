-- `job_answer::gen_line` meets its contract. Assumes nothing.
use mathlib.Core.Path.{refl}
use native.Mathlib.Omega.{arith}
use Rattle.text.proofs.Sets.{and_then, put-wrote}
use Rattle.text.proofs.Spelling.{decimal-short}
use Rattle.job_answer.specs.Lines.{gen_line}
use Rattle.job_answer.proofs.gen_line.Goals as goal

pub returns : goal.returns
unfolding gen_line
returns c = let h = decimal-short c.args.n in
    let w0 = put-wrote 4 refl (omega arith) c.put-e0.ensures in
    let w1 = put-wrote _ refl (omega (arith, w0.end)) c.put_decimal-e1.ensures in
    let w2 = put-wrote 1 refl (omega (arith, w0.end, w1.end)) c.put.ensures in
    record { wrote = and_then w0 (and_then w1 w2); within = omega (arith, w0.end, w1.end, w2.end) }
