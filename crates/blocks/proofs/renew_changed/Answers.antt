-- `blocks::renew_changed` meets its contract. Assumes nothing.
use Rattle.blocks.proofs.Steps.{changed-done}
use Rattle.blocks.proofs.renew_changed.Goals as goal

pub returns : goal.returns
returns c = let args = c.args in
    changed-done args.s args.n args.cells.now args.blocks.now _ _ args.indices.now args.k _ c.clear.ensures c.lesser.ensures c.renew_over.ensures
