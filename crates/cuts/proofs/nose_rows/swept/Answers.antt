-- `cuts::nose_rows::swept` meets its contract. Assumes nothing.
use mathlib.Core.Path.{◌≡◌, refl, ◌∙◌}
use native.Mathlib.Omega.{arith}
use Rattle.cuts.proofs.Sweeps.{stepped-none}
use Rattle.cuts.proofs.Rests.{part-more}
use Rattle.cuts.proofs.nose_rows.swept.Goals as goal

pub loop-i-init : goal.loop-i-init
loop-i-init c = (omega arith, omega arith, record { numbers = refl; flags = refl }, stepped-none _ _ _ _)

pub rested-from-requires : goal.rested-from-requires
rested-from-requires c = (omega arith, omega arith)

pub overflow_add-from : goal.overflow_add-from
overflow_add-from c = let m = c.rested-from.ensures.0 in
    let p = c.requires.1 in
    omega arith

pub sweep-requires : goal.sweep-requires
sweep-requires c = let r = c.rested-from.ensures in
    let m = r.0 in
    let to = c.lesser-to.ensures in
    let e = c.loop-i.invariant.2 in
    let p = c.requires in
    (omega arith, omega arith, record { numbers = omega (arith, p.2.numbers, e.numbers); flags = omega (arith, p.2.flags, e.flags) })

pub loop-i-smaller : goal.loop-i-smaller
loop-i-smaller c = let to = c.lesser-to.ensures in
    let o = c.rested-from.ensures.1.ordered in
    let t = c.loop-i-test.true in
    omega arith

pub loop-i-preserved : goal.loop-i-preserved
loop-i-preserved c = let to = c.lesser-to.ensures in
    let r = c.rested-from.ensures in
    let m = r.0 in
    let o = r.1.ordered in
    let l = c.loop-i in
    let h = l.invariant.0 in
    let e = l.invariant.2 in (
      omega arith,
      omega arith,
      record { numbers = c.sweep.auto.values ∙ e.numbers; flags = c.sweep.auto.there ∙ e.flags },
      part-more h (omega arith) l.invariant.3 r.1 c.sweep.ensures,
    )

pub shape_of-values : goal.shape_of-values
shape_of-values c = c.loop-i.invariant.2.numbers

pub shape_of-there : goal.shape_of-there
shape_of-there c = c.loop-i.invariant.2.flags

pub returns : goal.returns
returns c = let l = c.loop-i in
    let e : l.i ≡ c.args.last = omega arith in
    rw (← e) l.invariant.3
