-- `rings::remove_ring` meets its contract. Assumes nothing.
use Rattle.rings.proofs.Removing.{removes-taken, removes-on}
use Rattle.rings.proofs.remove_ring.Goals as goal

pub returns-in_err-took : goal.returns-in_err-took
returns-in_err-took c = removes-on _ c.remove_from.ensures _ _ c.in_err-took.was c.from_residual.ensures.1

pub returns : goal.returns
returns c = removes-taken _ c.remove_from.ensures _ _ c.in_ok-took.was c.stock_with.ensures
