-- `rings::fit::ring_fits` meets its contract. Assumes nothing.
use Rattle.rings.specs.Store.{ring_fits}
use Rattle.rings.proofs.fit.ring_fits.Goals as goal

pub returns : goal.returns
unfolding ring_fits
returns c = simp (c.is_minus_zero.ensures, c.is_minus_zero-2.ensures, c.is_minus_zero-3.ensures, c.is_minus_zero-4.ensures)
