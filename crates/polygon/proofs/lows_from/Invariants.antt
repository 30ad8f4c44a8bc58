-- `polygon::lows_from` meets its contract. The loop's invariant: the low is that of the start and the vertices passed. Assumes nothing.
use mathlib.Core.Path.{◌≡◌}
use Rattle.polygon.specs.Polygon.{lows_to}
use Rattle.polygon.proofs.lows_from.Given as goal

abbrev pub invariant-loop-i : goal.invariant-loop-i
invariant-loop-i l = l.low ≡ lows_to l.points l.side (record { za = l.za; zb = l.zb }) l.initial.low l.i
