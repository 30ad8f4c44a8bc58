-- `stock::clean_spec` meets its contract. Assumes nothing.
use Rattle.floats.specs.Pick.{picks}
use Rattle.stock.specs.Spec.{clean_spec}
use Rattle.stock.proofs.clean_spec.Goals as goal

pub returns : goal.returns
unfolding clean_spec
returns c = search (picks, ← c.clean-5.ensures, ← c.clean-4.ensures, ← c.clean-3.ensures, ← c.clean-2.ensures, ← c.clean.ensures)
