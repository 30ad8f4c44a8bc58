-- `envelope::split` meets its contract (`Halves.antt` has the loop's turn). Assumes nothing.
use Prim.Native.Nat.{◌-◌, ◌/◌, ◌≤◌}
use Rattle.envelope.specs.Halving.{halve, split_of}
use lib.ListN.{length}
use mathlib.Core.Path.{◌≡◌}
use Rattle.envelope.proofs.split.Given as goal

abbrev pub invariant-loop-a : goal.invariant-loop-a
invariant-loop-a l = (l.a ≤ l.b) × (l.b ≤ length l.points / 2) × (split_of l.points l.t l.x ≡ halve l.points l.t l.x (l.b - l.a) l.a l.b)

abbrev pub decreases-loop-a : goal.decreases-loop-a
decreases-loop-a l = l.b - l.a
