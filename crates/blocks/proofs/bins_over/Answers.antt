-- `blocks::bins_over` meets its contract. Assumes nothing.
use Rattle.blocks.proofs.Ranges.{span-over}
use Rattle.blocks.proofs.bins_over.Goals as goal

pub returns : goal.returns
returns c = span-over _ _ _ _ c.bins_at-a.ensures c.bins_at-b.ensures c.lesser.ensures c.greater.ensures
