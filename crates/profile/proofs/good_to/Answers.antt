-- `profile::good_to` meets its contract. The loop's invariant: what is found so far is said of the points passed. Assumes nothing.
use mathlib.Core.Path.{◌≡◌, refl}
use native.Mathlib.Omega.{arith}
use Rattle.profile.specs.Profile.{good_to}
use Rattle.profile.proofs.Points.{good_more}
use Rattle.profile.proofs.good_to.Goals as goal

pub loop-k-init : goal.loop-k-init
unfolding good_to
loop-k-init c = refl

pub loop-k-preserved : goal.loop-k-preserved
loop-k-preserved c = simp (good_more, c.point_good-ok.ensures, c.bulge_at.ensures, c.point_at.ensures, c.loop-k.invariant)

pub returns : goal.returns
returns c = let e : c.loop-k.k ≡ c.args.m = omega arith in
    rw (← e) c.loop-k.invariant
