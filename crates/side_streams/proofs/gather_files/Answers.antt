-- `side_streams::gather_files` meets its contract. Assumes nothing.
use mathlib.Core.Path.{ap}
use Rattle.refusals.specs.Number.{placed_of}
use Rattle.side_streams.proofs.Told.{first-refused, first-stock}
use borrow.Author.Rules.{rules}
use Rattle.side_streams.proofs.gather_files.Goals as goal

pub returns-in-Ok : goal.returns-in-Ok
returns-in-Ok g c = first-stock (search rules) (search rules) c.read_named-kept.ensures _ c.in-Ok.is _ _ c.gather_second.ensures

pub returns-in-Err : goal.returns-in-Err
returns-in-Err g c = first-refused (search rules) (search rules) c.read_named-kept.ensures _ (ap placed_of c.in-Err.is) _ _ c.gather_file.ensures
