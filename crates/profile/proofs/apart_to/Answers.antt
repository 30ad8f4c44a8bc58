-- `profile::apart_to` meets its contract. The loop's invariant: what is found so far is said of the points passed. Assumes nothing.
use mathlib.Core.Path.{◌≡◌, refl}
use native.Mathlib.Omega.{arith}
use Rattle.profile.specs.Profile.{apart_to}
use Rattle.profile.proofs.Points.{apart_more}
use Rattle.profile.proofs.apart_to.Goals as goal

pub loop-k-init : goal.loop-k-init
unfolding apart_to
loop-k-init c = refl

pub loop-k-preserved : goal.loop-k-preserved
loop-k-preserved c = simp (apart_more, c.is_apart-ok.ensures, c.point_at-in-loop-k.ensures, c.point_at.ensures, c.loop-k.invariant)

pub returns : goal.returns
returns c = let e : c.loop-k.k ≡ c.args.m = omega arith in
    rw (← e) c.loop-k.invariant
