-- `polygon::lowest` meets its contract. The loop's invariant: a is the height of point i, and the low is that of the edges before it. Assumes nothing.
use mathlib.Core.Path.{◌≡◌, refl, sym, ◌∙◌}
use Prim.Native.Nat.{◌<◌, ◌+◌, ◌-◌, ◌/◌}
use native.Mathlib.Omega.{arith}
use lib.ListN.{length}
use Rattle.polygon.specs.Polygon.{lowest_to, lowest_of}
use Rattle.polygon.proofs.Turns.{lowest-more, lowest-beside, lowest-closed}
use Rattle.polygon.proofs.lowest.Goals as goal
use Rattle.polygon.proofs.lowest.Goals.{then-not-is_beside, else-not-is_beside}

pub returns-then-n-eq0 : goal.returns-then-n-eq0
unfolding lowest_of lowest_to
returns-then-n-eq0 c = rw c.if-n-eq0.true

pub loop-i-init : goal.loop-i-init
unfolding lowest_to
loop-i-init c = (c.height_at-a.ensures, refl)

pub loop-i-preserved : goal.loop-i-preserved
loop-i-preserved c = let l = c.loop-i in
    let h : l.i + 1 < length c.args.points.now / 2 = omega arith in
    elim c.if-not-is_beside.branch [
      | then-not-is_beside w ↦ (c.height_at-b.ensures, rw (lowest-more _ _ _ _ l.i h, ← l.invariant.1) (w.low-is ∙ w.lower_at-low.ensures))
      | else-not-is_beside w ↦ (c.height_at-b.ensures, rw (lowest-beside _ _ _ _ l.i h l.invariant.0 c.height_at-b.ensures (sym c.is_beside.ensures ∙ w.if-not-is_beside.false), ← l.invariant.1) (w.low-is))
    ]

pub returns : goal.returns
unfolding lowest_of
returns c = let l = c.loop-i in
    let e : l.i ≡ length c.args.points.now / 2 - 1 = omega arith in
    let h : l.i + 1 ≡ length c.args.points.now / 2 = omega arith in
    rw (← c.clean-at.ensures, lowest-closed _ _ _ _ l.i h, ← l.invariant.1, e) c.lower_at.ensures
