-- `blocks::ends::of_block` meets its contract. The loop's invariant: what is found is of the bins passed. Assumes nothing.
use mathlib.Core.Path.{◌≡◌}
use Prim.Native.Nat.{◌≤◌, ◌-◌}
use Rattle.blocks.specs.Lots.{ends_in, lot_to}
use Rattle.blocks.proofs.ends.of_block.Given as goal

abbrev pub invariant-loop-k : goal.invariant-loop-k
invariant-loop-k l = (l.k ≤ 16) × (l.found ≡ ends_in (lot_to l.cells l.a (l.k - 1)))
