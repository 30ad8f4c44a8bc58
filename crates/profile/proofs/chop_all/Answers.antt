-- `profile::chop_all` meets its contract. The loop's invariant: the chords of the segments passed are put. Assumes nothing.
use borrow.Author.Rules.{rules}
use mathlib.Core.Path.{◌≡◌, refl}
use native.Mathlib.Omega.{arith}
use Rattle.profile.proofs.Walks.{at-start, one_more, no_more}
use Rattle.profile.proofs.chop_all.Goals as goal

pub loop-k-init : goal.loop-k-init
loop-k-init c = at-start _ _ _ _

pub returns-in_err-at : goal.returns-in_err-at
returns-in_err-at c = rw c.from_residual.ensures (no_more _ _ _ _ _ _ _ _ c.point_at-a.ensures c.point_at-b.ensures c.bulge_at-bulge.ensures c.loop-k.invariant c.chop.ensures _ _
    c.in_err-at.was
    c.loop-k-test.true)

pub loop-k-preserved : goal.loop-k-preserved
loop-k-preserved c = one_more _ _ _ _ _ _ _ _ c.point_at-a.ensures c.point_at-b.ensures c.bulge_at-bulge.ensures c.loop-k.invariant c.chop.ensures _ c.in_ok-at.was

pub returns : goal.returns
returns c = let e : c.loop-k.k ≡ c.args.m = omega arith in rw (← e) c.loop-k.invariant
