-- `stock::spec_good` meets its contract. Assumes nothing.
use Rattle.floats.specs.Pick.{picks}
use Rattle.stock.specs.Spec.{spec_good}
use Rattle.stock.proofs.spec_good.Goals as goal

pub returns : goal.returns
unfolding spec_good
returns c = search (picks, ← c.is_usable-5.ensures, ← c.is_usable-4.ensures, ← c.is_usable-3.ensures, ← c.is_usable-2.ensures, ← c.is_usable.ensures)
