-- `side_by_side::spelled::put_rings` meets its contract. Assumes nothing.
use native.Mathlib.Omega.{arith}
use mathlib.Core.Path.{◌≡◌}
use Rattle.side_by_side.proofs.Texts.{rings-none, rings-more, rings-done}
use Rattle.side_by_side.proofs.spelled.put_rings.Goals as goal

pub loop-i-init : goal.loop-i-init
loop-i-init c = rings-none _ _

pub put_ring-e-requires : goal.put_ring-e-requires
put_ring-e-requires c = let s = c.loop-i.invariant.size in omega arith

pub loop-i-preserved : goal.loop-i-preserved
loop-i-preserved c = rings-more c.loop-i.invariant c.ring_at.ensures c.put_ring-e.ensures

pub returns : goal.returns
returns c = let a = c.args in
    let e : c.loop-i.i ≡ a.n = omega (arith, c.loop-i.auto.i-end, c.loop-i-test.false) in
    rings-done c.loop-i.invariant e
