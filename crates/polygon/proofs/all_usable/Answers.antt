-- `polygon::all_usable` meets its contract. The loop's invariant: what is found so far is said of the numbers passed. Assumes nothing.
use mathlib.Core.Path.{◌≡◌, refl, ap, ◌∙◌}
use native.Mathlib.Omega.{arith}
use lib.ListN.{length}
use Rattle.floats.specs.Numbers.{usable_to, all_to}
use Rattle.polygon.proofs.Turns.{usable-more}
use Rattle.polygon.proofs.all_usable.Goals as goal

pub loop-x-init : goal.loop-x-init
unfolding usable_to all_to
loop-x-init c = refl

pub loop-x-preserved : goal.loop-x-preserved
loop-x-preserved c = rw (usable-more, ← c.loop-x.invariant, ← c.is_usable-ok.ensures)

pub returns : goal.returns
returns c = let ps = c.args.points.now in
    let e : c.loop-x.x-index ≡ length ps = omega arith in
    c.loop-x.invariant ∙ ap (usable_to ps) e
