-- `changes::begin` meets its contract. Assumes nothing.
use mathlib.Core.Path.{refl}
use Rattle.changes.proofs.begin.Goals as goal

pub returns : goal.returns
returns c = refl
