-- `stock::put_all` meets its contract. The loop's invariant: the cells passed are like c, the rest as they were. Assumes nothing.
use Rattle.std.proofs.Common.{◌≡◌, ◌*◌, length}
use Rattle.refusals.specs.Lent.{over}
use Rattle.stock.specs.Cell.{cells_like}
use Rattle.stock.proofs.put_all.Given as goal

abbrev pub invariant-loop-i : goal.invariant-loop-i
invariant-loop-i l = (length l.initial.cells ≡ 4 * l.n) × (l.cells ≡ over (cells_like l.c l.i) l.initial.cells)
