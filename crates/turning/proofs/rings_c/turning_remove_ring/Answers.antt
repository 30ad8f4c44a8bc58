-- `turning::rings_c::turning_remove_ring` meets its contract. Assumes nothing.
use Rattle.stock.specs.declared.TurnStock.{TurnStock}
use Rattle.rings.specs.Ring.{ring}
use Rattle.rings.specs.Remove.{remove_ring}
use Rattle.rings.specs.Tests.{ring_tests}
use Rattle.turning.proofs.Given.{gives-rings, same-ring, same-stock}
use Rattle.turning.proofs.rings_c.turning_remove_ring.Goals as goal

pub returns : goal.returns
returns c = let a = c.args in
    gives-rings _ _ _ _ _ _ _ _ _ _ _ _ _ _ _ c.give_removed.ensures
    (same-ring _ _ (λ (x : TurnStock). remove_ring x.spec a.rings.now x.rings x.stamp.generation (ring a.z0 a.z1 a.r0 a.r1)) (λ (x : TurnStock). ring_tests x.spec a.rings.now x.rings (ring a.z0 a.z1 a.r0 a.r1)) _ _ _ (same-stock _ _ _ _ _ _ c.stock_of-stock.ensures c.spec_of-spec.ensures) c.remove_ring-answer.ensures)
