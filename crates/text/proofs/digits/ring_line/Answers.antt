-- `text::digits::ring_line` meets its contract. Assumes nothing.
use Rattle.std.proofs.Common.{refl, arith}
use Rattle.text.specs.Lines.{ring_line}
use Rattle.text.proofs.Sets.{and_then, put-wrote}
use Rattle.text.proofs.Spelling.{four-long}
use Rattle.text.proofs.digits.ring_line.Goals as goal

pub returns : goal.returns
unfolding ring_line
returns c = let s = c.args in
    let n = four-long s.a s.b s.c s.d in
    let w = put-wrote 4 refl (omega arith) c.put-e.ensures in
    let v = put-wrote 69 n (omega (arith, w.end)) c.put_four.ensures in
    record { wrote = and_then w v; within = omega (arith, v.end, w.end) }
