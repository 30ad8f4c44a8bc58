-- `insert::candidates::Attempt::over_points` meets its contract. Assumes nothing.
use borrow.Author.Rules.{rules}
use mathlib.Core.Path.{◌≡◌, ap, ◌∙◌}
use Prim.Native.Nat.{◌-◌}
use native.Mathlib.Omega.{arith}
use Rattle.envelope.specs.Envelope.{u_at}
use Rattle.insert.specs.Insert.{points_to, points_in, polygon_to}
use Rattle.insert.proofs.Steps.{points-more}
use Rattle.insert.proofs.candidates.Attempt.over_points.Goals as goal

pub loop-i-init : goal.loop-i-init
unfolding points_to
loop-i-init c = let s = c.span-s.result in
    let g : s.start - s.start ≡ 0 = omega arith in
    (search rules, rw g)

pub loop-i-preserved : goal.loop-i-preserved
unfolding u_at
loop-i-preserved c = let a = c.args in
    let l = c.loop-i in
    (search rules, rw (points-more a.self.now.outline.w a.self.now.outline.points.now a.self.now.polygon.now a.self.now.trial c.span-s.result.start l.i l.auto.i, ← l.invariant.1, ← c.clean.ensures) c.with_point-found.ensures)

pub returns : goal.returns
unfolding polygon_to
returns c = let a = c.args in
    let l = c.loop-i in
    let p = c.span-s.result in
    let e : l.i - p.start ≡ p.end - p.start = omega arith in
    l.invariant.1 ∙ (ap (points_to a.self.now.outline.w a.self.now.outline.points.now a.self.now.polygon.now a.self.now.trial p.start) e
    ∙ ap (points_in a.self.now.outline.w a.self.now.outline.points.now a.self.now.polygon.now a.self.now.trial) c.span-s.ensures.ruled)
