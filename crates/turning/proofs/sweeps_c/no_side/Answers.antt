-- `turning::sweeps_c::no_side` meets its contract. Assumes nothing.
use Rattle.refusals.specs.Paper.{papers}
use Rattle.turning.proofs.sweeps_c.no_side.Goals as goal

pub returns-in-Err : goal.returns-in-Err
returns-in-Err c = search (papers, ← c.cells_fit.ensures, c.in-Err.is)

pub returns-in-Ok : goal.returns-in-Ok
returns-in-Ok c = search (papers, ← c.cells_fit.ensures, c.in-Ok.is)
