-- `picture::put_turn` meets its contract. Assumes nothing.
use Rattle.picture.proofs.Texts.{turn-later, turn-outer, turn-inner}
use Rattle.picture.proofs.put_turn.Goals as goal

pub returns-then-k-ne0 : goal.returns-then-k-ne0
returns-then-k-ne0 c = let a = c.args in (turn-later a.spec a.s a.k a.radius a.side c.if-k-ne0.true c.put_radius.ensures.0, c.put_radius.ensures.1)

pub returns-in-Outer : goal.returns-in-Outer
returns-in-Outer c = let a = c.args in (turn-outer a.spec a.s a.k a.radius c.in-Outer.is c.if-k-ne0.false c.near_end.ensures c.put_start.ensures.0, c.put_start.ensures.1)

pub returns-in-Inner : goal.returns-in-Inner
returns-in-Inner c = let a = c.args in (turn-inner a.spec a.s a.k a.radius c.in-Inner.is c.put_radius-in-Inner.ensures.0, c.put_radius-in-Inner.ensures.1)
