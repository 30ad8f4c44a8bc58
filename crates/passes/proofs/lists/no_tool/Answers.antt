-- `passes::lists::no_tool` meets its contract. Assumes nothing.
use mathlib.Core.Path.{refl}
use lib.Ieee.{div, of_bits}
use Rattle.passes.proofs.lists.no_tool.Goals as goal

pub returns : goal.returns
unfolding div of_bits
returns c = refl
