-- `insert::candidates::Attempt::over_all` meets its contract. Assumes nothing.
use mathlib.Core.Path.{◌≡◌, ap, ◌∙◌}
use Prim.Native.Nat.{◌/◌}
use native.Mathlib.Omega.{arith}
use lib.ListN.{length}
use Rattle.envelope.specs.Envelope.{u_at}
use Rattle.insert.specs.Insert.{polygon_to}
use Rattle.insert.proofs.Steps.{polygon-more}
use Rattle.insert.proofs.candidates.Attempt.over_all.Goals as goal

pub loop-i-init : goal.loop-i-init
loop-i-init c = c.over_points-found.ensures

pub loop-i-preserved : goal.loop-i-preserved
unfolding u_at
loop-i-preserved c = let a = c.args in
    let l = c.loop-i in
    rw (polygon-more a.self.now.outline.w a.self.now.outline.points.now a.self.now.polygon.now a.self.now.trial l.i, ← l.invariant, ← c.clean.ensures) c.with_candidate-found.ensures

pub returns : goal.returns
returns c = let a = c.args in
    let e : c.loop-i.i ≡ length a.self.now.polygon.now / 2 = omega arith in
    c.loop-i.invariant ∙ ap (polygon_to a.self.now.outline.w a.self.now.outline.points.now a.self.now.polygon.now a.self.now.trial) e
