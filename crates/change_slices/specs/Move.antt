-- A move of a list of changes. Assumes nothing.
use Rattle.std.specs.Prelude.{List, Float}
use Rattle.refusals.specs.Paper.{Paper, onward}
use Rattle.stock.specs.declared.Stamp.{Stamp}
use Rattle.stock.specs.declared.TurnStock.{TurnStock}
use Rattle.stock.specs.declared.TurnChange.{TurnChange}
use Rattle.stock.specs.Cell.{stock_of}
use Rattle.moves.specs.Move.{Left, move_in}

-- a move of a list of changes with its stamp: 1, 2, 3, then 4, 19, 20, 10, 7, then 8, 21, 22, 23 change by change, 12, 11
unfoldable pub move_list_of : TurnStock → List Float → List Float → List Float → Stamp → List TurnChange → List Float → Paper Left
move_list_of k cs bs xs st l removed = onward (stock_of k.spec cs) (λ n. move_in k n cs bs xs st l removed)
