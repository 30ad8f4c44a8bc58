-- `side_by_side::refused::refused_one` meets its contract. Assumes nothing.
use mathlib.Core.Path.{refl}
use native.Mathlib.Omega.{arith}
use Rattle.text.proofs.Sets.{and_then, put-wrote}
use Rattle.text.proofs.Spelling.{decimal-short}
use Rattle.side_by_side.specs.Refused.{tabbed, refused_with}
use Rattle.side_by_side.proofs.refused.refused_one.Goals as goal

pub returns : goal.returns
unfolding refused_with tabbed
returns c = let h = decimal-short c.args.n in
    let w0 = put-wrote 8 refl (omega arith) c.put-e0.ensures in
    let w1 = put-wrote _ refl (omega (arith, w0.end)) c.put_decimal-e1.ensures in
    let w2 = put-wrote 1 refl (omega (arith, w0.end, w1.end)) c.put.ensures in
    record { wrote = and_then w0 (and_then w1 w2); within = omega (arith, w0.end, w1.end, w2.end) }
