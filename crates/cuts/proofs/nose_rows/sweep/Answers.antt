-- `cuts::nose_rows::sweep` meets its contract. The loop's invariant: the bins passed hold one segment more, and the sample in hand is the one on its line. Assumes nothing.
use mathlib.Core.Path.{◌≡◌, refl, ◌∙◌}
use native.Mathlib.Omega.{arith}
use Rattle.cuts.proofs.Sweeps.{stepped-none, stepped-more}
use Rattle.cuts.proofs.nose_rows.sweep.Goals as goal

pub loop-i-init : goal.loop-i-init
loop-i-init c = (omega arith, omega arith, c.sampled-a.ensures, record { numbers = refl; flags = refl }, stepped-none _ _ _ _)

pub kept-start-requires : goal.kept-start-requires
kept-start-requires c = c.loop-i.invariant.2

pub touch-requires : goal.touch-requires
touch-requires c = let e = c.loop-i.invariant.3 in
    let p = c.requires in
    (record { numbers = omega arith; flags = omega arith }, omega arith)

pub loop-i-preserved : goal.loop-i-preserved
loop-i-preserved c = let l = c.loop-i in
    let e = l.invariant.3 in (
      omega arith,
      omega arith,
      c.sampled-stop.ensures,
      record { numbers = c.touch.auto.values ∙ e.numbers; flags = c.touch.auto.there ∙ e.flags },
      stepped-more _ _ _ c.bin_of-bin.ensures c.kept-start.ensures c.sampled-stop.ensures l.invariant.0 l.invariant.4 c.touch.ensures,
    )

pub shape_of-values : goal.shape_of-values
shape_of-values c = c.loop-i.invariant.3.numbers

pub shape_of-there : goal.shape_of-there
shape_of-there c = c.loop-i.invariant.3.flags

pub returns : goal.returns
returns c = let l = c.loop-i in
    let e : l.i ≡ c.args.last = omega arith in
    rw (← e) l.invariant.4
