-- `polygon::past_of` meets its contract. Assumes nothing.
use native.Mathlib.Omega.{arith}
use Rattle.polygon.specs.Polygon.{past_of}
use Rattle.polygon.proofs.past_of.Goals as goal

pub returns-then-last-n : goal.returns-then-last-n
unfolding past_of
returns-then-last-n c = omega arith

pub returns-else-last-n : goal.returns-else-last-n
unfolding past_of
returns-else-last-n c = omega arith
