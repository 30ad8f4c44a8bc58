-- `passes::propose::stands_over` meets its contract. Assumes nothing.
use Rattle.passes.proofs.propose.stands_over.Goals as goal

pub returns : goal.returns
returns c = simp (c.upper_at.ensures, c.cell_at-cell.ensures)
