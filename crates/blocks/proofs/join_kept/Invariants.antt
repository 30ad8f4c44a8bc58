-- `blocks::join_kept` meets its contract. The loop's invariant: what is found is said of the blocks passed. Assumes nothing.
use mathlib.Core.Path.{◌≡◌}
use Prim.Native.Nat.{◌≤◌, ◌-◌, max}
use Rattle.blocks.specs.Way.{join_from}
use Rattle.blocks.proofs.join_kept.Given as goal

abbrev pub invariant-loop-j : goal.invariant-loop-j
invariant-loop-j l = (l.j ≤ max l.a l.e) × (l.found ≡ join_from l.initial.found l.blocks l.a (l.j - l.a))
