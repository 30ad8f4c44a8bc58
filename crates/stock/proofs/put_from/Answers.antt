-- `stock::put_from` meets its contract. Assumes nothing.
use Rattle.std.proofs.Common.{◌≡◌, suc, ◌+◌, arith, length-set}
use Rattle.stock.proofs.put_from.Goals as goal

pub bounds-cells-at-2 : goal.bounds-cells-at-2
bounds-cells-at-2 c = simp length-set (omega arith)

pub bounds-cells-at-3 : goal.bounds-cells-at-3
bounds-cells-at-3 c = simp length-set (omega arith)

pub bounds-cells-at-4 : goal.bounds-cells-at-4
bounds-cells-at-4 c = simp length-set (omega arith)

pub returns : goal.returns
returns c = let at = c.args.at in
    let e1 : at + 1 ≡ suc at = omega arith in
    let e2 : at + 2 ≡ suc (suc at) = omega arith in
    let e3 : at + 3 ≡ suc (suc (suc at)) = omega arith in
    simp (e1, e2, e3)
