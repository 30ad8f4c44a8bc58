-- `cuts::single::is_past` meets its contract. Assumes nothing.
use Rattle.cuts.proofs.single.is_past.Goals as goal

pub returns : goal.returns
returns c = simp (c.is_usable-3.ensures, c.is_usable-2.ensures, c.is_usable.ensures)
