-- `cuts::nose_rows::fill` meets its contract. The loop's invariant: every bin holds what the rule has of the segments passed. Assumes nothing.
use mathlib.Core.Path.{◌≡◌, refl, ap, ◌∙◌}
use native.Mathlib.Omega.{arith}
use Rattle.nose.specs.declared.Segment.{Segment}
use Rattle.nose.specs.Nose.{segment_count}
use Rattle.nose.specs.Track.{track_of}
use Rattle.cuts.proofs.Sweeps.{filled_none, filled_more, idle-none, idle-all}
use Rattle.cuts.proofs.nose_rows.fill.Goals as goal

pub loop-k-init : goal.loop-k-init
loop-k-init c = let p = c.requires in
    (omega arith, refl, record { numbers = refl; flags = refl }, filled_none _ _ _ _ _ _ p.2, idle-none _ _ p.2)

pub pass-seen-requires : goal.pass-seen-requires
pass-seen-requires c = let e = c.loop-k.invariant.2 in
    let p = c.requires in
    (p.0, record { numbers = omega (arith, p.1.numbers); flags = omega (arith, p.1.flags) }, c.loop-k.invariant.4)

pub loop-k-preserved : goal.loop-k-preserved
loop-k-preserved c = let l = c.loop-k in
    let a = c.args in
    let e = l.invariant.2 in (
      omega arith,
      l.invariant.1,
      record { numbers = c.pass-seen.auto.values ∙ e.numbers; flags = c.pass-seen.auto.there ∙ e.flags },
      filled_more _ _ _ _ _ l.k _ _ _ (c.track_of-t.ensures ∙ ap (λ (x : Segment). track_of x a.rn) c.segment_at.ensures) l.invariant.3 c.pass-seen.ensures.0,
      c.pass-seen.ensures.1,
    )

pub shape_of-values-then-seen : goal.shape_of-values-then-seen
shape_of-values-then-seen c = c.loop-k.invariant.2.numbers

pub shape_of-there-then-seen : goal.shape_of-there-then-seen
shape_of-there-then-seen c = c.loop-k.invariant.2.flags

pub returns-then-seen : goal.returns-then-seen
returns-then-seen c = let l = c.loop-k in
    let e : l.k ≡ segment_count c.args.segments.now = omega arith in
    (rw (← e) l.invariant.3, idle-all _ l.invariant.4 c.if-seen.true, omega arith)

pub shape_of-values : goal.shape_of-values
shape_of-values c = c.loop-k.invariant.2.numbers

pub shape_of-there : goal.shape_of-there
shape_of-there c = c.loop-k.invariant.2.flags

pub returns : goal.returns
returns c = let l = c.loop-k in
    let e : l.k ≡ segment_count c.args.segments.now = omega arith in
    (rw (← e) l.invariant.3, l.invariant.4, c.if-seen.false)
