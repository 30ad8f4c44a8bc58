-- `passes::lists::part` meets its contract. Assumes nothing.
use mathlib.Core.Path.{◌≡◌, ap}
use Prim.Native.Nat.{ℕ, ◌+◌, ◌-◌}
use native.Mathlib.Omega.{arith}
use lib.ListN.{take, drop}
use Rattle.passes.proofs.lists.part.Goals as goal

pub returns : goal.returns
returns c = let a = c.args in
    let e : a.start + a.count - a.start ≡ a.count = omega arith in
    ap (λ (m : ℕ). take m (drop a.start a.lists.now)) e
