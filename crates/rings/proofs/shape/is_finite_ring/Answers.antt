-- `rings::shape::is_finite_ring` meets its contract. Assumes nothing.
use mathlib.Core.Path.{ap₂}
use mathlib.Core.Bool.{◌&&◌}
use Rattle.rings.proofs.shape.is_finite_ring.Goals as goal

pub returns : goal.returns
returns c = ap₂ ◌&&◌ (ap₂ ◌&&◌ (ap₂ ◌&&◌ c.is_finite.ensures c.is_finite-2.ensures) c.is_finite-3.ensures) c.is_finite-4.ensures
