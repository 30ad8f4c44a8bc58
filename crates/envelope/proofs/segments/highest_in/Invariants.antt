-- `envelope::segments::highest_in` meets its contract. Assumes nothing.
use Prim.Native.Nat.{◌-◌}
use mathlib.Core.Path.{◌≡◌}
use Rattle.envelope.specs.Envelope.{highest_to}
use Rattle.envelope.proofs.segments.highest_in.Given as goal

abbrev pub invariant-loop-i : goal.invariant-loop-i
invariant-loop-i l = (l.found ≡ highest_to l.points l.u l.start (l.i - l.start))
