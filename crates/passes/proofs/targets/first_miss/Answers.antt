-- `passes::targets::first_miss` meets its contract. Assumes nothing.
use mathlib.Core.Path.{◌≡◌, sym, ap, ◌∙◌}
use mathlib.Core.Bool.{◌&&◌}
use native.Mathlib.Omega.{arith}
use borrow.Author.Tests.{not-true, not-false}
use lib.Ieee.{le}
use Rattle.stock.specs.declared.TurnCell.{TurnCell}
use Rattle.passes.specs.Check.{lower_at, upper_at, first_miss}
use Rattle.passes.proofs.Loops.{missed-at, met-more, met-none}
use Rattle.passes.proofs.targets.first_miss.Goals as goal

pub loop-i-init : goal.loop-i-init
loop-i-init c = (omega arith, omega arith, met-none _ _)

pub returns-then-not-is_met : goal.returns-then-not-is_met
returns-then-not-is_met c = let a = c.args in
    let i = c.loop-i.i in
    let ts = a.targets.now in
    let e = c.is_met.ensures ∙ ap (λ (x : TurnCell). le (lower_at ts i) x.outer.lower_mm && le x.outer.upper_mm (upper_at ts i)) c.cell_at-c.ensures in
    record { missed = λ _. missed-at ts a.cells.now i a.n c.loop-i-test.true c.loop-i.invariant.2 (sym e ∙ not-true _ c.if-not-is_met.true-raw); met = λ h. absurd (omega (arith, h, c.loop-i-test.true)) }

pub loop-i-preserved : goal.loop-i-preserved
loop-i-preserved c = let a = c.args in
    let i = c.loop-i.i in
    let ts = a.targets.now in
    let e = c.is_met.ensures ∙ ap (λ (x : TurnCell). le (lower_at ts i) x.outer.lower_mm && le x.outer.upper_mm (upper_at ts i)) c.cell_at-c.ensures in
    (omega arith, omega arith, met-more ts a.cells.now i c.loop-i.invariant.2 (sym e ∙ not-false _ c.if-not-is_met.false-raw))

pub returns : goal.returns
returns c = let a = c.args in
    let e : a.n ≡ c.loop-i.i = omega arith in
    record { missed = λ h. absurd (omega arith); met = λ _. ap (first_miss a.targets.now a.cells.now) e ∙ c.loop-i.invariant.2 }
