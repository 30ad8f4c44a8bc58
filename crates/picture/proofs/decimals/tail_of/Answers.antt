-- `picture::decimals::tail_of` meets its contract. Assumes nothing.
use native.Mathlib.Omega.{arith}
use Rattle.picture.proofs.Texts.{tail-one, tail-two, tail-three, tail-four}
use Rattle.picture.proofs.decimals.tail_of.Goals as goal

pub returns-then-f-eq0 : goal.returns-then-f-eq0
returns-then-f-eq0 c = (tail-one _ c.if-f-eq0.true, omega arith)

pub returns-then-f-eq0-2 : goal.returns-then-f-eq0-2
returns-then-f-eq0-2 c = (tail-two _ c.if-f-eq0.false c.if-f-eq0-2.true, omega arith)

pub returns-then-f-eq0-3 : goal.returns-then-f-eq0-3
returns-then-f-eq0-3 c = (tail-three _ c.if-f-eq0.false c.if-f-eq0-2.false c.if-f-eq0-3.true, omega arith)

pub returns : goal.returns
returns c = (tail-four _ c.if-f-eq0.false c.if-f-eq0-2.false c.if-f-eq0-3.false, omega arith)
