-- `nose::good_to` meets its contract. The loop's invariant: what is found so far is said of the segments passed. Assumes nothing.
use mathlib.Core.Path.{◌≡◌, refl}
use native.Mathlib.Omega.{arith}
use Rattle.nose.specs.Nose.{good_to}
use Rattle.nose.proofs.Segments.{good_more}
use Rattle.nose.proofs.good_to.Goals as goal

pub loop-k-init : goal.loop-k-init
unfolding good_to
loop-k-init c = refl

pub loop-k-preserved : goal.loop-k-preserved
loop-k-preserved c = simp (good_more, c.segment_good-ok.ensures, c.loop-k.invariant)

pub returns : goal.returns
returns c = let e : c.loop-k.k ≡ c.args.m = omega arith in
    rw (← e) c.loop-k.invariant
