-- `rings::lent::copy_rings` meets its contract. The loop's invariant: the rings passed are written. Assumes nothing.
use native.Mathlib.Omega.{arith}
use mathlib.Core.Path.{◌≡◌, refl, ap, ◌∙◌}
use mathlib.Core.List.{◌++◌}
use Prim.Native.Nat.{ℕ}
use Rattle.rings.specs.Store.{rings_of, store_as}
use Rattle.rings.proofs.Flat.{copied-start, copied_next}
use Rattle.rings.proofs.lent.copy_rings.Goals as goal

pub loop-i-init : goal.loop-i-init
loop-i-init c = (refl, copied-start c.args.to.now c.args.from.now c.args.at (omega arith))

pub loop-i-preserved : goal.loop-i-preserved
loop-i-preserved c = let write-ring = c.write_ring in
    let loop = c.loop-i in
    let ring-at = c.ring_at in (
      write-ring.auto.rings ∙ loop.invariant.0,
      write-ring.ensures ∙ copied_next c.args.to.now loop.to c.args.from.now c.args.at loop.i ring-at.result (omega arith) ring-at.ensures loop.invariant.1,
    )

pub shape_of-to : goal.shape_of-to
shape_of-to c = c.loop-i.invariant.0

pub returns : goal.returns
returns c = let e : c.loop-i.i ≡ c.args.n = omega arith in
    c.loop-i.invariant.1 ∙ ap (λ (i : ℕ). store_as c.args.to.now (rings_of c.args.at c.args.to.now ++ rings_of i c.args.from.now)) e
