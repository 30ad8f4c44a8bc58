-- `insert::samples::most` meets its contract. Assumes nothing.
use mathlib.Core.Path.{◌≡◌, sym, ap, ◌∙◌}
use Prim.Native.Nat.{◌-◌, ◌+◌, ◌/◌}
use native.Mathlib.Omega.{arith}
use lib.ListN.{length}
use borrow.Author.Tests.{eq-eqb, ne_eqb}
use Rattle.floats.specs.Pick.{pick_true, pick-false}
use Rattle.envelope.specs.Envelope.{u_at}
use Rattle.insert.specs.Insert.{most_to, most_of}
use Rattle.insert.proofs.Steps.{most-more}
use Rattle.insert.proofs.samples.most.Goals as goal

pub returns-then-n-eq0 : goal.returns-then-n-eq0
unfolding most_of
returns-then-n-eq0 c = sym (pick_true _ _ _ (eq-eqb _ _ c.if-n-eq0.true))

pub loop-i-init : goal.loop-i-init
unfolding most_to u_at
loop-i-init c = c.clean-found.ensures

pub loop-i-preserved : goal.loop-i-preserved
unfolding u_at
loop-i-preserved c = let a = c.args in
    let l = c.loop-i in
    let e : l.i + 1 - 1 ≡ l.i = omega arith in
    rw (e, most-more a.w a.points.now l.i (omega arith), ← l.invariant, ← c.clean.ensures) c.chosen-found.ensures

pub returns : goal.returns
unfolding most_of
returns c = let l = c.loop-i in
    let e : l.i - 1 ≡ length c.args.points.now / 2 - 1 = omega arith in
    l.invariant ∙ ap (most_to c.args.w c.args.points.now) e ∙ sym (pick-false _ _ _ (ne_eqb _ _ c.if-n-eq0.false))
