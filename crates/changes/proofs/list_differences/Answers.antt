-- `changes::list_differences` meets its contract. Assumes nothing.
use native.Mathlib.Omega.{arith}
use Rattle.changes.proofs.Rising.{at_most}
use Rattle.changes.proofs.Proposals.{settled-listed, settled-full}
use Rattle.changes.specs.Difference.{other_cell}
use Rattle.changes.proofs.list_differences.Goals as goal

-- there is room for every bin
pub write_differences-requires : goal.write_differences-requires
write_differences-requires c = (c.requires.0, c.requires.1, omega (arith, at_most (other_cell c.args.after.now) c.args.cells.now c.args.n, c.room-room.ensures))

pub returns-then-n-room : goal.returns-then-n-room
returns-then-n-room c = settled-listed _ _ _ _ _ _ _ _ _ (omega (arith, at_most (other_cell c.args.after.now) c.args.cells.now c.args.n, c.room-room.ensures)) c.write_differences.ensures

-- there is room for those that differ
pub write_differences-requires-then-count_differences-room : goal.write_differences-requires-then-count_differences-room
write_differences-requires-then-count_differences-room c = let p = c.requires in
    (p.0, p.1, omega (arith, c.count_differences.ensures, c.room-room.ensures))

pub returns-then-count_differences-room : goal.returns-then-count_differences-room
returns-then-count_differences-room c = settled-listed _ _ _ _ _ _ _ _ _ (omega (arith, c.count_differences.ensures, c.room-room.ensures)) c.write_differences-then-count_differences-room.ensures

pub returns : goal.returns
returns c = settled-full _ _ _ _ _ _ (omega (arith, c.count_differences.ensures, c.room-room.ensures))
