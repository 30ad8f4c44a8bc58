-- `passes::propose::level_over` meets its contract. Assumes nothing.
use Rattle.passes.proofs.propose.level_over.Goals as goal

pub returns : goal.returns
returns c = simp (c.pass_end.ensures, c.pass_start.ensures, c.aim.ensures)
