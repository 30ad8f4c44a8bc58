-- `nose::over` meets its contract. Assumes nothing.
use borrow.Author.Rules.{rules}
use lib.Ieee.{binary64}
use lib.Ieee.Fits.{mul-fits}
use Rattle.nose.proofs.Overs.{over-test}
use Rattle.nose.proofs.over.Goals as goal

pub returns : goal.returns
returns c e rn = let a = c.args in
    over-test a.p a.rr a.c a.top _ (search rules) (mul-fits binary64 _ _) e rn
