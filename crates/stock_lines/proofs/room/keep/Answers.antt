-- `stock_lines::room::keep` meets its contract. Assumes nothing.
use Rattle.stock_lines.proofs.Rooms.{kept-writes, kept-short, kept-past}
use Rattle.std.proofs.Common.{arith, length-set}
use Rattle.stock_lines.proofs.room.keep.Goals as goal

pub bounds-list-at-then-k-list : goal.bounds-list-at-then-k-list
bounds-list-at-then-k-list c = simp length-set (omega arith)

pub bounds-list-at-then-k-list-2 : goal.bounds-list-at-then-k-list-2
bounds-list-at-then-k-list-2 c = simp length-set (omega arith)

pub bounds-list-at-then-k-list-3 : goal.bounds-list-at-then-k-list-3
bounds-list-at-then-k-list-3 c = simp length-set (omega arith)

pub returns-then-k-list : goal.returns-then-k-list
returns-then-k-list c = kept-writes c.args.limit c.args.list.now c.args.k _ _ _ _ c.if-k-limit.true c.if-k-list.true

pub returns-else-k-list : goal.returns-else-k-list
returns-else-k-list c = kept-short c.args.limit c.args.list.now c.args.k _ c.if-k-limit.true c.if-k-list.false

pub returns-else-k-limit : goal.returns-else-k-limit
returns-else-k-limit c = kept-past c.args.limit c.args.list.now c.args.k _ c.if-k-limit.false
