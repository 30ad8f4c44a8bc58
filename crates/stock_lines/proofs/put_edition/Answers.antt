-- `stock_lines::put_edition` meets its contract. Assumes nothing.
use Rattle.std.proofs.Common.{refl, arith}
use Rattle.text.proofs.Sets.{and_then, put-wrote}
use Rattle.text.proofs.Spelling.{digits-length}
use Rattle.stock_lines.proofs.put_edition.Goals as goal

pub returns : goal.returns
returns c = let a = c.args in
    let u = put-wrote 1 refl (omega arith) c.put-e.ensures in
    and_then u (put-wrote 8 (digits-length 16 8 a.edition) (omega (arith, u.end)) c.put_eight.ensures)
