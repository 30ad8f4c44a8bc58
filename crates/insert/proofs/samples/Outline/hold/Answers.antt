-- `insert::samples::Outline::hold` meets its contract. The loop's invariant: the samples of the points passed are held. Assumes nothing.
use mathlib.Core.Path.{sym, ap, ◌∙◌}
use Prim.Native.Nat.{◌<◌}
use native.Mathlib.Omega.{arith}
use lib.ListN.{length}
use Rattle.envelope.specs.Envelope.{u_at}
use Rattle.insert.specs.Insert.{sample_at}
use Rattle.insert.proofs.Held.{held_none, held_more}
use Rattle.insert.proofs.samples.Outline.hold.Goals as goal

pub loop-k-init : goal.loop-k-init
loop-k-init c = let a = c.args in held_none a.self.now.w a.self.now.points.now a.held.now

pub loop-k-preserved : goal.loop-k-preserved
unfolding u_at
loop-k-preserved c = let a = c.args in
    let l = c.loop-k in
    let r : l.k < length l.held = omega arith in
    let e = ap (sample_at a.self.now.w a.self.now.points.now) (sym c.clean.ensures) ∙ (sym c.sample_at.ensures ∙ c.in-Some.is) in
    held_more a.self.now.w a.self.now.points.now l.held l.k _ l.invariant r e
