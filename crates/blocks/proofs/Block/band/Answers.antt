-- `blocks::Block::band` meets its contract. Assumes nothing.
use Rattle.blocks.proofs.Steps.{block-is}
use Rattle.blocks.proofs.Block.band.Goals as goal

pub returns : goal.returns
returns c = let args = c.args in
    block-is args.self.now.of.now.s args.self.now.of.now.n args.self.now.of.now.cells.now args.self.now.j _ _ _ c.no_material-none.ensures c.end-to.ensures c.fold.ensures
