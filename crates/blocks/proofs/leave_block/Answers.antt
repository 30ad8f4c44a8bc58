-- `blocks::leave_block` meets its contract. Assumes nothing.
use Rattle.blocks.proofs.Steps.{stays_open, leaves-open}
use Rattle.blocks.proofs.leave_block.Goals as goal

pub returns-then-block-last : goal.returns-then-block-last
returns-then-block-last c = stays_open _ _ _ _ _ _ c.if-block-last.true

pub returns : goal.returns
returns c = leaves-open _ _ _ _ _ _ _ c.if-block-last.false c.renew_block.ensures
