-- `stock_file::take_bytes` meets its contract. Assumes nothing.
use native.Mathlib.Omega.{arith}
use mathlib.Core.Path.{refl, sym, ◌∙◌}
use Rattle.stock_file.proofs.Held.{bytes-end}
use borrow.Author.Rules.{rules}
use Rattle.stock_file.proofs.take_bytes.Goals as goal

pub loop-i-init : goal.loop-i-init
loop-i-init c = (search rules, search rules, search rules, search rules, search rules, search rules, refl)

pub take_run-t-requires : goal.take_run-t-requires
take_run-t-requires c = let i = c.loop-i.invariant in
    (i.5, i.4, c.loop-i-test.true)

pub loop-i-smaller : goal.loop-i-smaller
loop-i-smaller c = let t = c.take_run-t.ensures in
    omega (arith, t.on, t.reach, c.loop-i-test.true)

pub loop-i-preserved : goal.loop-i-preserved
loop-i-preserved c = let t = c.take_run-t.ensures in
    (t.reach, search rules, search rules, search rules, t.room, t.few, c.loop-i.invariant.6 ∙ t.same)

pub returns : goal.returns
returns c = record { same = sym (c.loop-i.invariant.6 ∙ bytes-end _ _ _ c.loop-i-test.false); few = c.loop-i.invariant.5; room = c.loop-i.invariant.4 }
