-- `polygon::lows_from` meets its contract. The loop's invariant: the low is that of the start and the vertices passed. Assumes nothing.
use mathlib.Core.Path.{◌≡◌, refl, ap, ◌∙◌}
use Prim.Native.Nat.{◌/◌}
use native.Mathlib.Omega.{arith}
use lib.ListN.{length}
use Rattle.floats.specs.Pick.{pick_true, pick-false}
use Rattle.polygon.specs.Polygon.{lows_to, lows_from}
use Rattle.polygon.proofs.Turns.{lows-more}
use Rattle.polygon.proofs.lows_from.Goals as goal
use Rattle.polygon.proofs.lows_from.Goals.{then-za-z, else-za-z}

pub loop-i-init : goal.loop-i-init
unfolding lows_to
loop-i-init c = refl

pub loop-i-preserved : goal.loop-i-preserved
loop-i-preserved c = let l = c.loop-i in
    elim c.if-za-z.branch [
      | then-za-z w ↦ (rw (lows-more, ← l.invariant, ← c.height_at-z.ensures, pick_true _ _ _ w.if-za-z.true, ← w.lowest.ensures) (w.low-is ∙ w.lower-low.ensures))
      | else-za-z w ↦ (rw (lows-more, ← l.invariant, ← c.height_at-z.ensures, pick-false _ _ _ w.if-za-z.false) (w.low-is))
    ]

pub returns : goal.returns
unfolding lows_from
returns c = let e : c.loop-i.i ≡ length c.args.points.now / 2 = omega arith in
    c.loop-i.invariant ∙ ap (lows_to c.args.points.now c.args.side c.args.bin c.args.start) e
