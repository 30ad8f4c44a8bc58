-- `blocks::Cells::match_to` meets its contract. The loop's invariant: what is found so far is said of the blocks passed. Assumes nothing.
use mathlib.Core.Path.{◌≡◌}
use Prim.Native.Nat.{◌≤◌}
use Rattle.blocks.specs.Block.{match_to, blocks_in}
use Rattle.blocks.proofs.Cells.match_to.Given as goal

abbrev pub invariant-loop-j : goal.invariant-loop-j
invariant-loop-j l = (l.count ≤ blocks_in l.self.n) × (l.ok ≡ match_to l.self.s l.self.n l.self.cells.now l.blocks l.j)
