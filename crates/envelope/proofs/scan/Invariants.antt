-- `envelope::scan` meets its contract. Assumes nothing.
use Prim.Native.Nat.{◌*◌}
use mathlib.Core.Path.{◌≡◌}
use Rattle.floats.specs.Numbers.{usable_to}
use Rattle.envelope.specs.Envelope.{rises_to, falls_to}
use Rattle.envelope.proofs.scan.Given as goal

abbrev pub invariant-loop-i : goal.invariant-loop-i
invariant-loop-i l = (l.good ≡ usable_to l.points (2 * l.i)) × (l.rises ≡ rises_to l.points l.i) × (l.falls ≡ falls_to l.points l.i)
