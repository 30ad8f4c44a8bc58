-- `blocks::ends::of_two` meets its contract. Assumes nothing.
use Rattle.blocks.proofs.Lots.{two_ends}
use Rattle.blocks.proofs.ends.of_two.Goals as goal

pub returns : goal.returns
returns c = two_ends c.args.cells.now c.args.i _ _ _ _ _ c.most_at.ensures c.most_at-2.ensures c.of_bin.ensures c.of_bin-2.ensures c.joined.ensures
