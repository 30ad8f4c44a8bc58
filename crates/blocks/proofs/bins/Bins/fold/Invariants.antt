-- `blocks::bins::Bins::fold` meets its contract. The loop's invariant: what is found is said of the bins passed. Assumes nothing.
use mathlib.Core.Path.{◌≡◌}
use Prim.Native.Nat.{◌≤◌, ◌-◌, max}
use Rattle.blocks.specs.Block.{fold_from}
use Rattle.blocks.proofs.bins.Bins.fold.Given as goal

abbrev pub invariant-loop-i : goal.invariant-loop-i
invariant-loop-i l = (l.i ≤ max l.self.a l.self.e) × (l.found ≡ fold_from l.initial.found l.self.cells.now l.self.a (l.i - l.self.a))
