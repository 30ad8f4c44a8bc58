-- `changes::applies_to` meets its contract. Assumes nothing.
use Rattle.changes.specs.Decide.{applies}
use Rattle.changes.proofs.applies_to.Goals as goal

pub returns : goal.returns
unfolding applies
returns c = simp (c.only_removes.ensures, c.same_cell.ensures, c.cell_at-held.ensures)
