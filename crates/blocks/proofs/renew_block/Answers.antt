-- `blocks::renew_block` meets its contract. Assumes nothing.
use native.Mathlib.Omega.{arith}
use Rattle.blocks.proofs.Steps.{no_block, new-block}
use Rattle.blocks.proofs.renew_block.Goals as goal

pub returns-then-blocks_in-j : goal.returns-then-blocks_in-j
returns-then-blocks_in-j c = no_block _ _ _ _ _ _ c.blocks_in.ensures c.if-blocks_in-j.true

pub returns : goal.returns
returns c = let args = c.args in
    new-block args.s args.n args.cells.now args.blocks.now _ _ args.j _ c.blocks_in.ensures (omega arith) c.band-fresh.ensures c.put_block.ensures
