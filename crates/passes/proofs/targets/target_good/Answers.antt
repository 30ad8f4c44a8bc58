-- `passes::targets::target_good` meets its contract. Assumes nothing.
use Rattle.passes.proofs.targets.target_good.Goals as goal

pub returns : goal.returns
returns c = simp (c.is_usable-2.ensures, c.is_usable.ensures, c.upper_at-upper.ensures, c.lower_at-lower.ensures)
