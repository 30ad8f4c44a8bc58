-- `blocks::Cells::write_all` meets its contract. The loop's invariant: the blocks passed are those of the cells, the rest as they were. Assumes nothing.
use mathlib.Core.Path.{◌≡◌}
use Prim.Native.Nat.{◌*◌}
use lib.ListN.{length}
use Rattle.refusals.specs.Lent.{over}
use Rattle.blocks.specs.Block.{blocks_to, blocks_in}
use Rattle.blocks.proofs.Cells.write_all.Given as goal

abbrev pub invariant-loop-j : goal.invariant-loop-j
invariant-loop-j l = (l.count ≡ blocks_in l.self.n) × (length l.initial.blocks ≡ 2 * l.count) × (l.blocks ≡ over (blocks_to l.self.s l.self.n l.self.cells.now l.j) l.initial.blocks)
