-- `stock_file::hold_bytes` meets its contract. Assumes nothing.
use Rattle.std.proofs.Common.{◌≡◌, ◌-◌, ℕ, subst, arith, rules}
use Rattle.stock_file.specs.Read.{HoldsOn}
use Rattle.stock_file.proofs.Held.{none-held, one-held}
use Rattle.stock_file.proofs.hold_bytes.Goals as goal

pub loop-m-init : goal.loop-m-init
loop-m-init c = (search rules, none-held _ _ _ _ c.requires.0 c.requires.1 c.requires.2)

pub overflow_sub-m-end : goal.overflow_sub-m-end
overflow_sub-m-end c = omega (arith, c.requires.0)

pub overflow_sub-result : goal.overflow_sub-result
overflow_sub-result c = omega (arith, c.requires.0)

pub overflow_add-at : goal.overflow_add-at
overflow_add-at c = omega (arith, c.loop-m.invariant.1.reach)

pub returns-then-bytes-at : goal.returns-then-bytes-at
returns-then-bytes-at c = c.loop-m.invariant.1

pub returns-then-b-eq10 : goal.returns-then-b-eq10
returns-then-b-eq10 c = c.loop-m.invariant.1

pub overflow_add-len : goal.overflow_add-len
overflow_add-len c = omega (arith, c.loop-m.invariant.1.few)

pub loop-m-preserved : goal.loop-m-preserved
loop-m-preserved c = let l = c.loop-m in
    (search rules, one-held _ _ _ _ l.m l.line _ l.invariant.1 c.loop-m-test.true c.if-bytes-at.false c.if-b-eq10.false c.put_byte.ensures)

pub returns : goal.returns
returns c = let a = c.args in
    let l = c.loop-m in
    let e : l.m ≡ 127 - a.len = omega (arith, l.invariant.1.few, c.loop-m-test.false) in
    subst (λ (m : ℕ). HoldsOn a.len a.line.now a.bytes.now a.from m l.line) e l.invariant.1
