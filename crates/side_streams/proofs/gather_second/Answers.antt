-- `side_streams::gather_second` meets its contract. Assumes nothing.
use mathlib.Core.Path.{ap}
use Rattle.refusals.specs.Number.{placed_of}
use Rattle.side_streams.proofs.Told.{second-refused, second-stock}
use borrow.Author.Rules.{rules}
use Rattle.side_streams.proofs.gather_second.Goals as goal

pub returns-in-Ok : goal.returns-in-Ok
returns-in-Ok g c = second-stock (search rules) (search rules) c.read_named-kept.ensures _ c.in-Ok.is _ _ _ _ _ _ _ c.first_cells.ensures c.first_cells-in-Ok.ensures c.gather_pair.ensures

pub returns-in-Err : goal.returns-in-Err
returns-in-Err g c = second-refused (search rules) (search rules) c.read_named-kept.ensures _ (ap placed_of c.in-Err.is) _ _ _ _ _ c.gather_file.ensures
