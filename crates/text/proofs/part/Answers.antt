-- `text::part` meets its contract. Assumes nothing.
use Rattle.text.proofs.Parting.{field-start, end-within, field-none, field_next, field_is}
use Rattle.std.proofs.Common.{sym, ◌∙◌, arith, rules}
use Rattle.text.proofs.part.Goals as goal

pub loop-init : goal.loop-init
loop-init c = (search rules, field-start _ _ _)

pub returns-then-s-e : goal.returns-then-s-e
returns-then-s-e c = sym (c.loop.invariant.1 ∙ field-none _ _ _ _ _ _ c.loop-test.true c.loop.invariant.0 c.part_end-e.ensures c.if-s-e.true)

pub loop-preserved : goal.loop-preserved
loop-preserved c = (search rules, c.loop.invariant.1 ∙ field_next _ _ _ _ _ _ c.loop-test.true c.loop.invariant.0 c.part_end-e.ensures c.if-s-e.false)

pub slice_bounds-result-end-2 : goal.slice_bounds-result-end-2
slice_bounds-result-end-2 c = omega (arith, end-within c.args.p c.args.s.now c.loop.a c.loop.invariant.0)

pub returns : goal.returns
returns c = sym (c.loop.invariant.1 ∙ field_is _ _ _ _ _ _ c.loop-test.false c.part_end-e-2.ensures)
