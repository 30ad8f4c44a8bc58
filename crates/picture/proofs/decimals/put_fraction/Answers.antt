-- `picture::decimals::put_fraction` meets its contract. Assumes nothing.
use native.Mathlib.Omega.{arith}
use Rattle.picture.proofs.Texts.{fraction-none, fraction-some}
use Rattle.picture.proofs.decimals.put_fraction.Goals as goal

pub returns-then-f-eq0 : goal.returns-then-f-eq0
returns-then-f-eq0 c = (fraction-none _ c.if-f-eq0.true, omega arith)

pub returns : goal.returns
returns c = fraction-some _ _ c.if-f-eq0.false c.tail_of-t.ensures.0 c.tail_of-t.ensures.1 c.requires c.put-a.ensures c.put_digits.ensures
