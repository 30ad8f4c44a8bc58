-- `envelope::segments::extent_in` meets its contract. Assumes nothing.
use Prim.Native.Nat.{◌-◌}
use mathlib.Core.Path.{◌≡◌}
use Rattle.envelope.specs.Envelope.{radii_to}
use Rattle.envelope.specs.Halving.{found_radii}
use Rattle.envelope.proofs.segments.extent_in.Given as goal

abbrev pub invariant-loop-i : goal.invariant-loop-i
invariant-loop-i l = found_radii l.found ≡ radii_to l.points l.lo l.hi l.start (l.i - l.start)
