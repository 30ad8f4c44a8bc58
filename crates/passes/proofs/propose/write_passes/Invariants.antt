-- `passes::propose::write_passes` meets its contract. The loop's invariant: the passes of the runs that ended are over the fronts of the lists, and of the open run its first bin is known and whether some bin stands over its target. Assumes nothing.
use Prim.Native.Nat.{◌≤◌}
use lib.ListN.{take}
use Rattle.passes.specs.Propose.{open_to, room_in, Listing}
use Rattle.passes.proofs.Runs.{Reached}
use Rattle.passes.proofs.propose.write_passes.Given as goal

abbrev pub invariant-loop-i : goal.invariant-loop-i
invariant-loop-i l = (l.i ≤ l.n)
    × Reached (open_to l.s l.n l.targets l.rn l.cells l.i) l.i l.first l.high
    × Listing (take (room_in l.initial.kinds l.initial.numbers l.initial.parts) (open_to l.s l.n l.targets l.rn l.cells l.i).passes) l.k l.initial.kinds l.kinds l.initial.numbers l.numbers l.initial.parts l.parts
