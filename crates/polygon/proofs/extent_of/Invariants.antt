-- `polygon::extent_of` meets its contract. The loop's invariant: lo and hi are the extent of the points passed, of which there is one at least. Assumes nothing.
use Rattle.std.specs.Prelude.{Some}
use mathlib.Core.Path.{◌≡◌}
use Rattle.polygon.specs.Polygon.{extent_to}
use Rattle.polygon.proofs.extent_of.Given as goal

abbrev pub invariant-loop-i : goal.invariant-loop-i
invariant-loop-i l = extent_to l.points l.i ≡ Some (record { lo = l.lo; hi = l.hi })
