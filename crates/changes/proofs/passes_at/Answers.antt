-- `changes::passes_at` meets its contract. Assumes nothing.
use Rattle.refusals.specs.Paper.{papers}
use Rattle.changes.proofs.passes_at.Goals as goal

pub returns-in-Ok : goal.returns-in-Ok
returns-in-Ok c = search (papers, c.in-Ok.is, ← c.change_passes.ensures)

pub returns-in-Err : goal.returns-in-Err
returns-in-Err c = search (papers, c.in-Err.is, c.at.ensures, ← c.change_passes.ensures)
