-- `envelope::segments::extent_in` meets its contract. Assumes nothing.
use Rattle.std.specs.Prelude.{Option}
use borrow.Author.Rules.{rules}
use Prim.Native.Nat.{◌+◌, ◌-◌}
use mathlib.Core.Path.{◌≡◌, ap, sym, ◌∙◌}
use Rattle.floats.specs.Pick.{pick}
use native.Mathlib.Omega.{arith}
use Rattle.envelope.specs.declared.Radii.{Radii}
use Rattle.envelope.specs.Envelope.{point_at, segment_in, radii_to}
use Rattle.envelope.specs.Halving.{found_radii}
use Rattle.envelope.proofs.Steps.{radii-more}
use Rattle.envelope.proofs.segments.extent_in.Goals as goal

pub returns-then-end-start : goal.returns-then-end-start
unfolding radii_to
returns-then-end-start c = let a = c.args in
    let e : a.s.end - a.s.start - 1 ≡ 0 = omega arith in
    rw e

pub loop-i-init : goal.loop-i-init
unfolding radii_to found_radii pick
loop-i-init c = let a = c.args in
    let g : a.s.start - a.s.start ≡ 0 = omega arith in
    rw g

pub loop-i-preserved : goal.loop-i-preserved
loop-i-preserved c = let a = c.args in
    let i = c.loop-i.i in
    c.taken_from-found.ensures ∙ ap (λ (o : Option Radii). segment_in o (point_at a.points.now i) (point_at a.points.now (i + 1)) a.lo a.hi) c.loop-i.invariant ∙ sym (radii-more a.points.now a.lo a.hi a.s.start i c.loop-i.auto.i)

pub returns : goal.returns
returns c = let a = c.args in
    let e : c.loop-i.i - a.s.start ≡ a.s.end - a.s.start - 1 = omega arith in
    c.extent_found.ensures ∙ c.loop-i.invariant ∙ ap (radii_to a.points.now a.lo a.hi a.s.start) e
