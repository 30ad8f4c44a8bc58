-- `rings::remove_all_in` meets its contract. The loop's invariant: the rings passed are added in a store of their own. Assumes nothing.
use Rattle.std.specs.Prelude.{Result}
use native.Mathlib.Omega.{arith}
use mathlib.Core.Path.{◌≡◌, refl, ◌∙◌, ap}
use Prim.Native.Nat.{◌/◌}
use lib.ListN.{length}
use Rattle.refusals.specs.declared.Refusal.{Refusal}
use Rattle.refusals.specs.Number.{placed_of}
use Rattle.refusals.proofs.Exits.{plain_exit}
use Rattle.rings.specs.declared.Added.{Added}
use Rattle.rings.specs.Ring.{clip}
use Rattle.rings.specs.Store.{rings_of}
use Rattle.rings.specs.Counted.{stored_by}
use Rattle.rings.proofs.Adding.{adding-start, adding-step, adding-refused, stores-counted, stores-on}
use Rattle.rings.proofs.Removing.{all-refuses-4, all_none, all_one, all-refused, all-stored}
use Rattle.rings.proofs.remove_all_in.Goals as goal

pub returns-then-room-count : goal.returns-then-room-count
returns-then-room-count c = let room_of = c.room_of-room in
    all-refuses-4 c.args.e c.args.rings.now c.args.count c.args.removed.now _ c.from.ensures room_of.result room_of.ensures c.if-room-count.true

pub returns-then-k-eq0 : goal.returns-then-k-eq0
returns-then-k-eq0 c = let room_of = c.room_of-room in
    all_none c.args.e c.args.rings.now c.args.count c.args.removed.now room_of.result room_of.ensures c.if-room-count.false _ refl c.if-k-eq0.true

pub add_ring-requires : goal.add_ring-requires
add_ring-requires c = let r = c.room_of-room.ensures in
    (omega arith, omega arith, omega arith)

pub returns-in_err-add_ring : goal.returns-in_err-add_ring
returns-in_err-add_ring c = let room_of = c.room_of-room in
    let clipped = c.clipped-c in
    all_one c.args.e c.args.rings.now c.args.count c.args.removed.now room_of.result room_of.ensures c.if-room-count.false _ clipped.result refl c.if-k-eq1.true (clipped.ensures ∙ ap (clip c.args.e) c.ring_at.ensures) (stores-on _ _ c.in_err-add_ring.was c.from_residual.ensures.1 c.add_ring.ensures)

pub returns-then-k-eq1 : goal.returns-then-k-eq1
returns-then-k-eq1 c = let room_of = c.room_of-room in
    let clipped = c.clipped-c in
    all_one c.args.e c.args.rings.now c.args.count c.args.removed.now room_of.result room_of.ensures c.if-room-count.false _ clipped.result refl c.if-k-eq1.true (clipped.ensures ∙ ap (clip c.args.e) c.ring_at.ensures) (stores-counted _ c.in_ok-add_ring.was c.add_ring.ensures)

pub copy_rings-requires : goal.copy_rings-requires
copy_rings-requires c = let r = c.room_of-room.ensures in
    (omega arith, omega arith)

pub loop-i-init : goal.loop-i-init
loop-i-init c = let room_of = c.room_of-room in
    let r = room_of.ensures in
    (adding-start c.args.e room_of.result c.args.rings.now c.args.removed.now _ _ c.args.count refl c.if-room-count.false (omega arith) c.copy_rings.ensures)

pub add_ring-requires-in-loop-i : goal.add_ring-requires-in-loop-i
add_ring-requires-in-loop-i c = let loop = c.loop-i in
    let r = c.room_of-room.ensures in
    let s = loop.invariant.size in
    (loop.invariant.within, omega arith, omega arith)

pub returns-in_err-n : goal.returns-in_err-n
returns-in_err-n c = let room_of = c.room_of-room in
    let loop = c.loop-i in
    let clipped2 = c.clipped-c-in-loop-i in
    let add-ring2 = c.add_ring-in-loop-i in
    all-refused c.args.e c.args.rings.now c.args.count c.args.removed.now room_of.result room_of.ensures c.if-room-count.false _ _ (plain_exit _ _ c.from_residual-in_err-n.ensures.1) (adding-refused c.args.e room_of.result (rings_of c.args.count c.args.rings.now) c.args.removed.now loop.i loop.work loop.n loop.invariant clipped2.result (clipped2.ensures ∙ ap (clip c.args.e) c.ring_at-in-loop-i.ensures) _ (stored_by add-ring2.result) add-ring2.ensures.stores _ _ (ap (λ (a : Result Added Refusal). placed_of (stored_by a)) c.in_err-n.was) c.loop-i-test.true)

pub loop-i-preserved : goal.loop-i-preserved
loop-i-preserved c = let loop = c.loop-i in
    let clipped2 = c.clipped-c-in-loop-i in
    let add-ring2 = c.add_ring-in-loop-i in
    adding-step c.args.e c.room_of-room.result (rings_of c.args.count c.args.rings.now) c.args.removed.now loop.i loop.work loop.n loop.invariant clipped2.result (clipped2.ensures ∙ ap (clip c.args.e) c.ring_at-in-loop-i.ensures) _ (stored_by add-ring2.result) add-ring2.ensures.stores _ (ap stored_by c.in_ok-n.was) add-ring2.auto.rings

pub copy_rings-requires-2 : goal.copy_rings-requires-2
copy_rings-requires-2 c = let loop = c.loop-i in
    let r = c.room_of-room.ensures in
    let s = loop.invariant.size in
    let w = loop.invariant.within in
    (omega arith, omega arith)

pub returns : goal.returns
returns c = let loop = c.loop-i in
    let room_of = c.room_of-room in
    let f : loop.i ≡ length c.args.removed.now / 4 = omega arith in
    all-stored c.args.e c.args.rings.now c.args.count c.args.removed.now room_of.result room_of.ensures c.if-room-count.false loop.work loop.n loop.i _ f loop.invariant.rule c.copy_rings-2.ensures
