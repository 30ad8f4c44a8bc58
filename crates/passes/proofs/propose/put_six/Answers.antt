-- `passes::propose::put_six` meets its contract. Assumes nothing.
use mathlib.Core.Path.{◌≡◌}
use Prim.Native.Nat.{suc, ◌+◌, ◌*◌}
use native.Mathlib.Omega.{arith}
use lib.ListN.{length-set}
use Rattle.passes.proofs.propose.put_six.Goals as goal

pub bounds-numbers-at-2 : goal.bounds-numbers-at-2
bounds-numbers-at-2 c = simp length-set (omega arith)

pub bounds-numbers-at-3 : goal.bounds-numbers-at-3
bounds-numbers-at-3 c = simp length-set (omega arith)

pub bounds-numbers-at-4 : goal.bounds-numbers-at-4
bounds-numbers-at-4 c = simp length-set (omega arith)

pub bounds-numbers-at-5 : goal.bounds-numbers-at-5
bounds-numbers-at-5 c = simp length-set (omega arith)

pub bounds-numbers-at-6 : goal.bounds-numbers-at-6
bounds-numbers-at-6 c = simp length-set (omega arith)

pub returns : goal.returns
returns c = let at = 6 * c.args.k in
    let e1 : at + 1 ≡ suc at = omega arith in
    let e2 : at + 2 ≡ suc (suc at) = omega arith in
    let e3 : at + 3 ≡ suc (suc (suc at)) = omega arith in
    let e4 : at + 4 ≡ suc (suc (suc (suc at))) = omega arith in
    let e5 : at + 5 ≡ suc (suc (suc (suc (suc at)))) = omega arith in
    simp (e1, e2, e3, e4, e5)
