-- `blocks::most_kept` meets its contract. Assumes nothing.
use Rattle.blocks.proofs.Steps.{kept_whole, kept-cells}
use Rattle.blocks.proofs.most_kept.Goals as goal

pub returns-then-first-behind : goal.returns-then-first-behind
returns-then-first-behind c = let args = c.args in
    kept_whole args.s args.cells.now args.blocks.now args.a args.e _ _ c.blocks_in-first.ensures c.no_material.ensures _ _ _ c.if-first-behind.true c.fold-head.ensures c.join_kept-whole.ensures c.fold.ensures

pub returns : goal.returns
returns c = let args = c.args in
    kept-cells args.s args.cells.now args.blocks.now args.a args.e _ _ c.blocks_in-first.ensures c.no_material-2.ensures _ c.if-first-behind.false c.fold-2.ensures
