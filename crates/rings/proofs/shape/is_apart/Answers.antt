-- `rings::shape::is_apart` meets its contract. Assumes nothing.
use mathlib.Core.Path.{refl}
use Rattle.rings.proofs.shape.is_apart.Goals as goal

pub returns : goal.returns
returns c = refl
