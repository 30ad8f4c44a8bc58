-- `rings::first_bad` meets its contract. The loop's invariant: none of the rings passed is bad. Assumes nothing.
use Rattle.std.specs.Prelude.{None}
use mathlib.Core.Path.{◌≡◌}
use Rattle.rings.specs.Store.{rings_of, bad_from}
use Rattle.rings.proofs.first_bad.Given as goal

abbrev pub invariant-loop-i : goal.invariant-loop-i
invariant-loop-i l = bad_from 0 (rings_of l.i l.rings) ≡ None
