-- `blocks::ends::of_four` meets its contract. Assumes nothing.
use Prim.Native.Nat.{◌+◌}
use Rattle.blocks.specs.Lots.{two_at}
use Rattle.blocks.proofs.Lots.{joined-ends}
use Rattle.blocks.proofs.ends.of_four.Goals as goal

pub returns : goal.returns
returns c = joined-ends (two_at c.args.cells.now c.args.i) (two_at c.args.cells.now (c.args.i + 2)) _ _ _ c.of_two.ensures c.of_two-2.ensures c.joined.ensures
