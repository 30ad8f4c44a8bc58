-- `picture::put_along` meets its contract. Assumes nothing.
use native.Mathlib.Omega.{arith}
use Rattle.picture.proofs.Texts.{lettered}
use Rattle.picture.proofs.put_along.Goals as goal

pub returns : goal.returns
returns c = let w = lettered 72 _ c.requires c.put-a.ensures c.put_length.ensures in (w.0, omega (arith, w.1, c.requires))
