-- `side_by_side::both_in_hand` meets its contract. Assumes nothing.
use mathlib.Core.Path.{ap₂}
use mathlib.Core.Bool.{◌&&◌}
use Rattle.side_by_side.proofs.both_in_hand.Goals as goal

pub returns : goal.returns
returns c = ap₂ ◌&&◌ c.each_in_hand.ensures c.each_in_hand-2.ensures
