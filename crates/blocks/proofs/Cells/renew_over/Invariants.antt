-- `blocks::Cells::renew_over` meets its contract. The loop's invariant: the bins passed are gone through. Assumes nothing.
use mathlib.Core.Path.{◌≡◌}
use Prim.Native.Nat.{◌≤◌}
use lib.ListN.{length, take}
use Rattle.blocks.specs.Renew.{open_after}
use Rattle.blocks.proofs.Cells.renew_over.Given as goal

abbrev pub invariant-loop-i : goal.invariant-loop-i
invariant-loop-i l = (l.k ≤ length l.indices) × (length l.blocks ≡ length l.initial.blocks) × (l.blocks ≡ (open_after l.self.s l.self.n l.self.cells.now l.initial.blocks (take l.i l.indices)).numbers) × (l.block ≡ (open_after l.self.s l.self.n l.self.cells.now l.initial.blocks (take l.i l.indices)).block)
