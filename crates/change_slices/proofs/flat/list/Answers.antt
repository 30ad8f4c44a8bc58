-- `change_slices::flat::list` meets its contract. Assumes nothing.
use Rattle.change_slices.proofs.Rooms.{narrows}
use Rattle.change_slices.proofs.flat.list.Goals as goal

pub returns : goal.returns
returns c = narrows _ _ _ _ _ _ _ _ _ c.preview_tool-answer.ensures c.narrow.ensures
