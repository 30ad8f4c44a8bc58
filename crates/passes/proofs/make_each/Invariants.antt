-- `passes::make_each` meets its contract. Assumes nothing.
use mathlib.Core.Path.{◌≡◌}
use Prim.Native.Nat.{◌≤◌}
use lib.ListN.{length}
use Rattle.passes.specs.Cuts.{pass_limit, cuts_of}
use Rattle.passes.specs.Steps.{RoomForAll}
use Rattle.passes.proofs.InTurn.{Stand}
use Rattle.passes.proofs.make_each.Given as goal

abbrev pub invariant-loop-k : goal.invariant-loop-k
invariant-loop-k l = (l.k ≤ length l.kinds) × (length l.kinds ≤ pass_limit) × (length l.after ≡ length l.initial.after) × (length l.indices ≡ length l.initial.indices) × (length l.records ≡ length l.initial.records) × RoomForAll l.after l.indices l.records × Stand l.initial.s (cuts_of l.kinds l.numbers l.parts l.lists) l.initial.after l.k l.s l.after
