-- `passes::propose::same_target` meets its contract. Assumes nothing.
use Rattle.passes.proofs.propose.same_target.Goals as goal

pub returns : goal.returns
returns c = simp (c.upper_at-2.ensures, c.upper_at.ensures, c.lower_at-2.ensures, c.lower_at.ensures)
