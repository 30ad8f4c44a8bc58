-- `rings::fit::sweep_fits` meets its contract. Assumes nothing.
use mathlib.Core.Bool.{false≢true}
use Rattle.rings.proofs.Sweeping.{both, swept-fits}
use Rattle.rings.proofs.fit.sweep_fits.Goals as goal

pub returns-then-stored-le-BLOCK : goal.returns-then-stored-le-BLOCK
returns-then-stored-le-BLOCK c = λ e. absurd (false≢true e)

pub returns-then-rises : goal.returns-then-rises
returns-then-rises c = λ e. absurd (false≢true e)

pub returns : goal.returns
returns c = λ e. let g = both _ _ e in swept-fits _ _ _ (c.all_fit-fits.ensures g.0) (c.is_clear.ensures g.1)
