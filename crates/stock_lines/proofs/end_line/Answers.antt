-- `stock_lines::end_line` meets its contract. Assumes nothing.
use Rattle.std.proofs.Common.{refl, arith}
use Rattle.text.proofs.Sets.{and_then, put-wrote}
use Rattle.stock_lines.specs.Form.{end_line}
use Rattle.stock_lines.proofs.Steps.{end_short}
use Rattle.stock_lines.proofs.end_line.Goals as goal

pub returns : goal.returns
unfolding end_line
returns c = let s = end_short c.args.n in
    let u = c.put_end-e.ensures.wrote in
    let v = put-wrote 1 refl (omega (arith, u.end, s)) c.put.ensures in
    record { wrote = and_then u v; within = omega (arith, u.end, v.end, s) }
