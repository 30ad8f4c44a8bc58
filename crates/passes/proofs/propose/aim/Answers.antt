-- `passes::propose::aim` meets its contract. Assumes nothing.
use Rattle.passes.specs.Propose.{aim_of}
use Rattle.passes.proofs.propose.aim.Goals as goal

pub returns : goal.returns
unfolding aim_of
returns c = simp (c.upper_at.ensures, c.lower_at.ensures)
