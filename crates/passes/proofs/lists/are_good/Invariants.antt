-- `passes::lists::are_good` meets its contract. Assumes nothing.
use mathlib.Core.Path.{◌≡◌}
use Prim.Native.Nat.{◌≤◌}
use lib.ListN.{length}
use Rattle.passes.specs.Cuts.{pass_limit}
use Rattle.passes.specs.Check.{outside_to}
use Rattle.passes.proofs.lists.are_good.Given as goal

abbrev pub invariant-loop-k : goal.invariant-loop-k
invariant-loop-k l = (l.k ≤ length l.kinds) × (length l.kinds ≤ pass_limit) × (l.ok ≡ outside_to l.kinds l.k)
