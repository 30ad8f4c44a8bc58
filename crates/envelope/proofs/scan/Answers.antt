-- `envelope::scan` meets its contract. Assumes nothing.
use borrow.Author.Rules.{rules}
use Prim.Native.Nat.{◌+◌, ◌-◌, ◌*◌, ◌/◌}
use mathlib.Core.Path.{◌≡◌, refl, ap, ◌∙◌}
use lib.ListN.{length}
use native.Mathlib.Omega.{arith}
use Rattle.floats.specs.Numbers.{usable_to, all_to}
use Rattle.envelope.specs.Envelope.{rises_to, falls_to}
use Rattle.envelope.proofs.Steps.{usable-more, rises_next, falls-next}
use Rattle.envelope.proofs.Kept.{scan-made, scan-none}
use Rattle.envelope.proofs.scan.Goals as goal

pub returns-then-n-eq0 : goal.returns-then-n-eq0
returns-then-n-eq0 c = scan-none c.args.points.now c.requires c.if-n-eq0.true

pub loop-i-init : goal.loop-i-init
unfolding usable_to rises_to falls_to all_to
loop-i-init c = (refl, refl, refl)

pub loop-i-preserved : goal.loop-i-preserved
loop-i-preserved c = let ps = c.args.points.now in
    let i = c.loop-i.i in
    let held = c.shared_slice_known-1.given in
    let inv = c.loop-i.invariant in (
      rw (usable-more ps i, ← inv.0, ← c.is_usable.ensures, ← c.is_usable-in-loop-i.ensures),
      rw inv.1 (rises_next ps held i),
      rw inv.2 (falls-next ps held i),
    )

pub returns : goal.returns
returns c = let ps = c.args.points.now in
    let i = c.loop-i.i in
    let inv = c.loop-i.invariant in
    let e : i ≡ length ps / 2 - 1 = omega arith in
    let g : 2 * (i + 1) ≡ length ps = omega arith in
    scan-made ps _ _ _
    (rw (← g, usable-more ps i, ← inv.0, e, ← c.is_usable-2.ensures, ← c.is_usable-3.ensures))
    (inv.1 ∙ ap (rises_to ps) e)
    (inv.2 ∙ ap (falls_to ps) e)
