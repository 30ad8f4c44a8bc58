-- `rings::list_tests_in` meets its contract. The loop's invariant: the rings passed are added in a store of its own, and their tests are written. Assumes nothing.
use native.Mathlib.Omega.{arith}
use mathlib.Core.Path.{refl, ◌∙◌, ap}
use Prim.Native.Nat.{◌<◌, ◌*◌, ◌^◌}
use lib.ListN.{length}
use Rattle.std.specs.Prelude.{Result}
use Rattle.refusals.specs.declared.Refusal.{Refusal}
use Rattle.refusals.specs.Number.{placed_of}
use Rattle.rings.specs.declared.Added.{Added}
use Rattle.rings.specs.Ring.{clip}
use Rattle.rings.specs.Store.{rings_of}
use Rattle.rings.specs.Counted.{stored_by}
use Rattle.rings.proofs.Adding.{adding-start}
use Rattle.rings.proofs.Listed.{telling-start, telling-length, telling-step, telling-refused, telling-end}
use Rattle.rings.proofs.list_tests_in.Goals as goal
use Rattle.rings.proofs.list_tests_in.Goals.{Start}

-- a slice takes fewer than 2 ^ 63 bytes
lent : (c : Start) → length c.args.tests.now * 8 < 2 ^ 63
lent c = omega arith

pub copy_rings-requires : goal.copy_rings-requires
copy_rings-requires c = (omega arith, omega arith)

pub loop-i-init : goal.loop-i-init
loop-i-init c = let w = c.requires in
    telling-start c.args.e c.args.room (rings_of c.args.count c.args.rings.now) c.args.removed.now _ c.args.count c.args.tests.now
    (adding-start c.args.e c.args.room c.args.rings.now c.args.removed.now _ _ c.args.count refl w.0 (omega arith) c.copy_rings.ensures)

pub ring_at-requires : goal.ring_at-requires
ring_at-requires c = let k = c.lesser-k.ensures in omega arith

pub add_ring-requires : goal.add_ring-requires
add_ring-requires c = let s = c.loop-i.invariant.adding.size in
    let w = c.requires in
    (c.loop-i.invariant.adding.within, omega arith, omega arith)

pub shape_of-tests-in_default : goal.shape_of-tests-in_default
shape_of-tests-in_default c = let loop = c.loop-i in
    let k = c.lesser-k.ensures in
    telling-length c.args.e c.args.room (rings_of c.args.count c.args.rings.now) c.args.removed.now loop.i loop.work loop.n c.args.tests.now loop.tests loop.invariant (omega (arith, c.loop-i.auto.i-end))

pub returns-in_default : goal.returns-in_default
returns-in_default c = let loop = c.loop-i in
    let clipped = c.clipped-c in
    let add-ring = c.add_ring in
    let k = c.lesser-k.ensures in
    let l = c.loop-i-test.true in
    let i = c.loop-i.auto.i-end in
    telling-refused c.args.e c.args.room (rings_of c.args.count c.args.rings.now) c.args.removed.now loop.i loop.work loop.n c.args.tests.now loop.tests loop.invariant (omega arith) clipped.result (clipped.ensures ∙ ap (clip c.args.e) c.ring_at.ensures) _ add-ring.result add-ring.ensures _ (ap (λ (a : Result Added Refusal). placed_of (stored_by a)) c.in_default.is) (omega arith)

pub offset_bounds-tests-i : goal.offset_bounds-tests-i
offset_bounds-tests-i c = let k = c.lesser-k.ensures in
    let l = c.loop-i-test.true in
    omega (arith, lent c.before.before.before.before.before.before.before.before.before.before.before.before.before.before.before.before)

pub bounds-tests-i : goal.bounds-tests-i
bounds-tests-i c = let loop = c.loop-i in
    let k = c.lesser-k.ensures in
    let l = c.loop-i-test.true in
    let n = telling-length c.args.e c.args.room (rings_of c.args.count c.args.rings.now) c.args.removed.now loop.i loop.work loop.n c.args.tests.now loop.tests loop.invariant (omega (arith, c.loop-i.auto.i-end)) in
    omega arith

pub loop-i-preserved : goal.loop-i-preserved
loop-i-preserved c = let loop = c.loop-i in
    let clipped = c.clipped-c in
    let add-ring = c.add_ring in
    let k = c.lesser-k.ensures in
    let l = c.loop-i-test.true in
    let i = c.loop-i.auto.i-end in
    (telling-step c.args.e c.args.room (rings_of c.args.count c.args.rings.now) c.args.removed.now loop.i loop.work loop.n c.args.tests.now loop.tests loop.invariant (omega arith) clipped.result (clipped.ensures ∙ ap (clip c.args.e) c.ring_at.ensures) _ add-ring.result add-ring.ensures _ c.in-Ok.is add-ring.auto.rings (omega arith))

pub shape_of-tests : goal.shape_of-tests
shape_of-tests c = let loop = c.loop-i in
    let k = c.lesser-k.ensures in
    telling-length c.args.e c.args.room (rings_of c.args.count c.args.rings.now) c.args.removed.now loop.i loop.work loop.n c.args.tests.now loop.tests loop.invariant (omega (arith, c.loop-i.auto.i-end))

pub returns : goal.returns
returns c = let loop = c.loop-i in
    let k = c.lesser-k.ensures in
    let l = c.loop-i-test.false in
    let i = c.loop-i.auto.i-end in
    telling-end c.args.e c.args.room (rings_of c.args.count c.args.rings.now) c.args.removed.now loop.i loop.work loop.n c.args.tests.now loop.tests loop.invariant (omega arith) (omega arith)
