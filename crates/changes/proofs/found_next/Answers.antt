-- `changes::found_next` meets its contract. Assumes nothing.
use Rattle.refusals.proofs.Exits.{placed_exit}
use Rattle.refusals.specs.Paper.{papers}
use Rattle.changes.proofs.found_next.Goals as goal

pub returns-in_err-before : goal.returns-in_err-before
returns-in_err-before c = search (papers, placed_exit _ _ c.from_residual.ensures.1, c.in_err-before.was)

pub returns : goal.returns
returns c = search (papers, c.in_ok-before.was, c.passes_at.ensures)
