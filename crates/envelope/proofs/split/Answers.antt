-- `envelope::split` meets its contract (`Halves.antt` has the loop's turn). Assumes nothing.
use Prim.Native.Nat.{◌-◌}
use Rattle.envelope.proofs.Halves.{done, left, right, whole}
use Rattle.envelope.specs.Envelope.{passes}
use borrow.Author.Rules.{rules}
use mathlib.Core.Path.{◌∙◌, ap, sym}
use native.Mathlib.Omega.{arith}
use Rattle.envelope.proofs.split.Goals as goal

pub loop-a-init : goal.loop-a-init
loop-a-init c = (search rules, search rules, whole c.args.points.now c.args.t c.args.x)

pub loop-a-preserved-then-passes : goal.loop-a-preserved-then-passes
loop-a-preserved-then-passes c = (search rules, search rules, c.loop-a.invariant.2 ∙ right c.args.points.now c.args.t c.args.x c.loop-a.a c.loop-a.b c.loop-a-test.true (ap (λ u. passes c.args.t u c.args.x) (sym c.u_at.ensures) ∙ (sym c.passes.ensures ∙ c.if-passes.true)))

pub loop-a-preserved : goal.loop-a-preserved
loop-a-preserved c = (search rules, search rules, c.loop-a.invariant.2 ∙ left c.args.points.now c.args.t c.args.x c.loop-a.a c.loop-a.b c.loop-a-test.true (ap (λ u. passes c.args.t u c.args.x) (sym c.u_at.ensures) ∙ (sym c.passes.ensures ∙ c.if-passes.false)))

pub returns : goal.returns
returns c = sym (c.loop-a.invariant.2 ∙ done c.args.points.now c.args.t c.args.x (c.loop-a.b - c.loop-a.a) c.loop-a.a c.loop-a.b (omega arith))
