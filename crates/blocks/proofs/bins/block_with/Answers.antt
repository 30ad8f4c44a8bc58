-- `blocks::bins::block_with` meets its contract. Assumes nothing.
use Rattle.blocks.proofs.Steps.{with-chosen}
use Rattle.blocks.proofs.bins.block_with.Goals as goal

pub returns : goal.returns
returns c = with-chosen _ _ _ _ _ _ c.chosen.ensures c.least.ensures c.chosen-2.ensures c.greatest.ensures
