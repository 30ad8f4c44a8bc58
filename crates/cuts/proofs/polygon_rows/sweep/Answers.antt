-- `cuts::polygon_rows::sweep` meets its contract. The loop's invariant: the bins passed say what is reached there, and the sample in hand is the one on its line. Assumes nothing.
use mathlib.Core.Path.{◌≡◌, refl, ◌∙◌}
use native.Mathlib.Omega.{arith}
use Rattle.cuts.proofs.Crossings.{crossed-none, crossed-more}
use Rattle.cuts.proofs.polygon_rows.sweep.Goals as goal

pub loop-i-init : goal.loop-i-init
loop-i-init c = (omega arith, omega arith, c.lowest.ensures, record { numbers = refl; flags = refl }, crossed-none _ _ _ _)

pub cross-held-requires : goal.cross-held-requires
cross-held-requires c = let inv = c.loop-i.invariant in
    let e = inv.3 in
    let p = c.requires in
    let below = c.loop-i-test.true in (
      p.0,
      p.1 c.loop-i.i inv.0 below,
      inv.2,
      record { numbers = omega (arith, p.4.numbers); flags = omega (arith, p.4.flags) },
      omega (arith, below, p.3),
      inv.4.over c.loop-i.i (omega arith) ∙ p.5 c.loop-i.i inv.0 below,
    )

pub loop-i-preserved : goal.loop-i-preserved
loop-i-preserved c = let l = c.loop-i in
    let e = l.invariant.3 in (
      omega arith,
      omega arith,
      c.cross-held.ensures.0,
      record { numbers = c.cross-held.auto.values ∙ e.numbers; flags = c.cross-held.auto.there ∙ e.flags },
      crossed-more l.invariant.0 l.invariant.4 c.cross-held.ensures.1,
    )

pub shape_of-values : goal.shape_of-values
shape_of-values c = c.loop-i.invariant.3.numbers

pub shape_of-there : goal.shape_of-there
shape_of-there c = c.loop-i.invariant.3.flags

pub returns : goal.returns
returns c = let l = c.loop-i in
    let e : l.i ≡ c.args.last = omega arith in
    rw (← e) l.invariant.4
