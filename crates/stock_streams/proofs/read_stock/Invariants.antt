-- `stock_streams::read_stock` meets its contract. Assumes nothing.
use mathlib.Core.Path.{◌≡◌}
use lib.ListN.{length}
use Rattle.stock_streams.proofs.Taking.{SoFar}
use Rattle.stock_streams.proofs.read_stock.Given as goal

abbrev pub invariant-loop : goal.invariant-loop
invariant-loop g l = (length l.cells ≡ length l.initial.cells) × (length l.rings ≡ length l.initial.rings) × SoFar l.initial.cells l.initial.rings l.reading l.len l.cells l.rings l.line
