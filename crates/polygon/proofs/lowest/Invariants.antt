-- `polygon::lowest` meets its contract. The loop's invariant: a is the height of point i, and the low is that of the edges before it. Assumes nothing.
use mathlib.Core.Path.{◌≡◌}
use Rattle.polygon.specs.Polygon.{height_at, lowest_to}
use Rattle.polygon.proofs.lowest.Given as goal

abbrev pub invariant-loop-i : goal.invariant-loop-i
invariant-loop-i l = (l.a ≡ height_at l.points l.i) × (l.low ≡ lowest_to l.points l.side l.n l.at l.i)
