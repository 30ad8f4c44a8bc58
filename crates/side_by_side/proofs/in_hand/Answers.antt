-- `side_by_side::in_hand` meets its contract. Assumes nothing.
use Rattle.std.proofs.Common.{◌∙◌}
use Rattle.side_by_side.proofs.Pieces.{in-hand-is}
use Rattle.side_by_side.proofs.in_hand.Goals as goal

pub returns : goal.returns
returns c = c.is_ok.ensures.value ∙ in-hand-is _ _ _ _ _ c.left_of.ensures
