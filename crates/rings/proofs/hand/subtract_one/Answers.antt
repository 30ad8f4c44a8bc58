-- `rings::hand::subtract_one` meets its contract. The loop's invariant: the pieces passed are subtracted from. Assumes nothing.
use native.Mathlib.Omega.{arith}
use mathlib.Core.Path.{◌≡◌, refl, ◌∙◌, subst}
use Prim.Native.Nat.{ℕ}
use Rattle.rings.specs.Ring.{subtract}
use Rattle.rings.specs.Store.{rings_of}
use Rattle.rings.specs.Hand.{Grows}
use Rattle.rings.proofs.InHand.{pieces-start, pieces-next}
use Rattle.rings.proofs.hand.subtract_one.Goals as goal

pub loop-i-init : goal.loop-i-init
loop-i-init c = (refl, pieces-start _ _ _)

pub loop-i-preserved : goal.loop-i-preserved
loop-i-preserved c = let split-into = c.split_into-m in
    let loop = c.loop-i in
    let ring-at = c.ring_at in
    (split-into.auto.hand ∙ loop.invariant.0, pieces-next c.args.hand.now loop.i c.args.k ring-at.result ring-at.ensures loop.invariant.1 split-into.ensures)

pub shape_of-next : goal.shape_of-next
shape_of-next c = c.loop-i.invariant.0

pub returns : goal.returns
returns c = let e : c.loop-i.i ≡ c.args.n = omega arith in
    subst (λ (i : ℕ). Grows c.args.next.now 0 c.loop-i.next c.loop-i.m (subtract (rings_of i c.args.hand.now) c.args.k)) e c.loop-i.invariant.1
