-- `passes::propose::put_level` meets its contract. Assumes nothing.
use mathlib.Core.Path.{◌≡◌, refl}
use Prim.Native.Nat.{suc, ◌+◌, ◌*◌}
use native.Mathlib.Omega.{arith}
use lib.ListN.{length-set}
use Rattle.passes.proofs.propose.put_level.Goals as goal

pub bounds-parts-at-2 : goal.bounds-parts-at-2
bounds-parts-at-2 c = simp length-set (omega arith)

pub returns : goal.returns
returns c = let at = 2 * c.args.k in
    let e1 : at + 1 ≡ suc at = omega arith in
    record { kinds = refl; numbers = c.put_six.ensures; parts = simp e1 }
