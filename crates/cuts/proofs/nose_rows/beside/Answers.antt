-- `cuts::nose_rows::beside` meets its contract. Assumes nothing.
use Rattle.cuts.proofs.Rests.{side-test}
use Rattle.cuts.proofs.nose_rows.beside.Goals as goal

pub returns : goal.returns
returns c e = let a = c.args in side-test a.w a.c e
