-- `rings::raised_by` meets its contract. The loop's invariant: the rings passed are counted. Assumes nothing.
use native.Mathlib.Omega.{arith}
use mathlib.Core.Path.{◌≡◌, refl, ◌∙◌, ap₂}
use Prim.Native.Nat.{ℕ, ◌/◌}
use lib.ListN.{length}
use Rattle.rings.specs.declared.Ring.{Ring}
use Rattle.rings.specs.Store.{rings_of, raised_by}
use Rattle.rings.proofs.Prefix.{raised-next, one_or_none, one_at_most}
use Rattle.rings.proofs.raised_by.Goals as goal

pub loop-i-init : goal.loop-i-init
unfolding raised_by rings_of
loop-i-init c = (omega arith, refl)

pub overflow_add-n : goal.overflow_add-n
overflow_add-n c = let h = c.loop-i.invariant.0 in
    let o = one_at_most c.from-n.result c.is_filled.result (c.from-n.ensures ∙ one_or_none c.is_filled.result) in
    omega arith

pub loop-i-preserved : goal.loop-i-preserved
loop-i-preserved c = let is-filled = c.is_filled in
    let loop = c.loop-i in
    let ring-at = c.ring_at in
    let clipped = c.clipped in
    let o = one_at_most c.from-n.result is-filled.result (c.from-n.ensures ∙ one_or_none is-filled.result) in
    (omega arith, raised-next c.extent-e.result c.args.removed.now loop.i loop.n c.from-n.result ring-at.result clipped.result is-filled.result loop.invariant.1 ring-at.ensures clipped.ensures is-filled.ensures (c.from-n.ensures ∙ one_or_none is-filled.result))

pub returns : goal.returns
returns c = let e : c.loop-i.i ≡ length c.args.removed.now / 4 = omega arith in
    c.loop-i.invariant.1 ∙ ap₂ (λ (b : Ring) (j : ℕ). raised_by b (rings_of j c.args.removed.now)) c.extent-e.ensures e
