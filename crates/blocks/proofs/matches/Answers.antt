-- `blocks::matches` meets its contract. Assumes nothing.
use Rattle.blocks.proofs.Steps.{match-short, match-all}
use Rattle.blocks.proofs.matches.Goals as goal

pub returns-then-blocks-count : goal.returns-then-blocks-count
returns-then-blocks-count c = match-short _ _ _ _ _ c.blocks_in-count.ensures c.if-blocks-count.true

pub returns : goal.returns
returns c = match-all _ _ _ _ _ _ c.blocks_in-count.ensures c.if-blocks-count.false c.match_to.ensures
