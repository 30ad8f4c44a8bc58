-- `cuts::ends::find` meets its contract. Assumes nothing.
use mathlib.Core.Path.{◌≡◌}
use mathlib.Core.Bool.{true}
use Prim.Native.Nat.{◌≤◌, ◌-◌}
use Rattle.cuts.specs.Rows.{before_of}
use Rattle.cuts.proofs.ends.find.Given as goal

abbrev pub invariant-loop-s : goal.invariant-loop-s
invariant-loop-s l = (l.g ≤ l.n) × (before_of l.s l.e l.ends l.touch l.g ≡ true)

abbrev pub decreases-loop-s : goal.decreases-loop-s
decreases-loop-s l = l.n - l.g
