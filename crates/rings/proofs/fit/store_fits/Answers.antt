-- `rings::fit::store_fits` meets its contract. The loop's invariant: what is found so far is said of the rings passed, and the boxes are about them. Assumes nothing.
use native.Mathlib.Omega.{arith}
use mathlib.Core.Path.{◌≡◌, refl, ap, ◌∙◌}
use Prim.Native.Nat.{ℕ}
use Rattle.rings.specs.Store.{rings_of, store_fits}
use Rattle.rings.proofs.Boxes.{checked-start, checked-next}
use Rattle.rings.proofs.fit.store_fits.Goals as goal

pub loop-i-init : goal.loop-i-init
loop-i-init c = checked-start _ _ _ refl

pub apart_blocks-requires : goal.apart_blocks-requires
apart_blocks-requires c = let s = c.loop-i.invariant.size in
    (omega arith, omega arith, s)

pub widen-requires : goal.widen-requires
widen-requires c = let s = c.loop-i.invariant.size in
    omega arith

pub loop-i-preserved : goal.loop-i-preserved
loop-i-preserved c = let loop = c.loop-i in
    let ring-fits = c.ring_fits in
    let apart-blocks = c.apart_blocks in
    let ring-at = c.ring_at-q in
    checked-next c.args.e c.args.rings.now loop.i loop.boxes _ loop.ok ring-fits.result apart-blocks.result ring-at.result (omega arith) loop.invariant
    ring-at.ensures ring-fits.ensures apart-blocks.ensures c.widen.auto.boxes c.widen.ensures

pub returns : goal.returns
returns c = let e : c.loop-i.i ≡ c.args.n = omega arith in
    c.loop-i.invariant.found ∙ ap (λ (i : ℕ). store_fits c.args.e (rings_of i c.args.rings.now)) e
