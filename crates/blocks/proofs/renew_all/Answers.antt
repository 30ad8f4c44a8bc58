-- `blocks::renew_all` meets its contract. Assumes nothing.
use Rattle.blocks.proofs.Steps.{all-renewed, none-renewed}
use Rattle.blocks.proofs.renew_all.Goals as goal

pub returns-then-blocks-count : goal.returns-then-blocks-count
returns-then-blocks-count c = none-renewed _ _ _ _ _ c.blocks_in-count.ensures c.if-blocks-count.true

pub returns : goal.returns
returns c = all-renewed _ _ _ _ _ _ c.blocks_in-count.ensures c.if-blocks-count.false c.write_all.ensures
