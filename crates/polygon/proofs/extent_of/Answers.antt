-- `polygon::extent_of` meets its contract. The loop's invariant: lo and hi are the extent of the points passed, of which there is one at least. Assumes nothing.
use mathlib.Core.Path.{◌≡◌, sym, ap, ◌∙◌}
use Prim.Native.Nat.{◌/◌}
use native.Mathlib.Omega.{arith}
use lib.ListN.{length}
use Rattle.polygon.specs.Polygon.{widened, extent_to, extent_of}
use Rattle.polygon.proofs.Turns.{extent-more}
use Rattle.polygon.proofs.extent_of.Goals as goal

pub returns-then-n-eq0 : goal.returns-then-n-eq0
unfolding extent_of extent_to
returns-then-n-eq0 c = rw c.if-n-eq0.true

pub loop-i-init : goal.loop-i-init
unfolding extent_to widened
loop-i-init c = rw (← c.height_at-first.ensures)

pub loop-i-preserved : goal.loop-i-preserved
unfolding widened
loop-i-preserved c = rw (extent-more, c.loop-i.invariant, ← c.height_at-z.ensures, ← c.least-lo.ensures, ← c.greatest-hi.ensures)

pub returns : goal.returns
unfolding extent_of
returns c = let ps = c.args.points.now in
    let e : c.loop-i.i ≡ length ps / 2 = omega arith in
    sym (ap (extent_to ps) (sym e) ∙ c.loop-i.invariant)
