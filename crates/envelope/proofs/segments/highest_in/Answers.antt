-- `envelope::segments::highest_in` meets its contract. Assumes nothing.
use Rattle.std.specs.Prelude.{Option}
use borrow.Author.Rules.{rules}
use Prim.Native.Nat.{◌+◌, ◌-◌}
use mathlib.Core.Path.{◌≡◌, ap, sym, ◌∙◌}
use lib.Ieee.{Float}
use native.Mathlib.Omega.{arith}
use Rattle.envelope.specs.Envelope.{point_at, higher, segment_at, highest_to}
use Rattle.envelope.proofs.Steps.{highest-more}
use Rattle.envelope.proofs.segments.highest_in.Goals as goal

pub returns-then-end-start : goal.returns-then-end-start
unfolding highest_to
returns-then-end-start c = let a = c.args in
    let e : a.s.end - a.s.start - 1 ≡ 0 = omega arith in
    rw e

pub loop-i-init : goal.loop-i-init
unfolding highest_to
loop-i-init c = let a = c.args in
    let g : a.s.start - a.s.start ≡ 0 = omega arith in
    rw g

pub loop-i-preserved : goal.loop-i-preserved
loop-i-preserved c = let a = c.args in
    let i = c.loop-i.i in
    c.higher_at-found.ensures ∙ ap (λ (o : Option Float). higher o (segment_at (point_at a.points.now i) (point_at a.points.now (i + 1)) a.u)) c.loop-i.invariant ∙ sym (highest-more a.points.now a.u a.s.start i c.loop-i.auto.i)

pub returns : goal.returns
returns c = let a = c.args in
    let e : c.loop-i.i - a.s.start ≡ a.s.end - a.s.start - 1 = omega arith in
    c.loop-i.invariant ∙ ap (highest_to a.points.now a.u a.s.start) e
