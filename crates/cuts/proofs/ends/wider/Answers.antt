-- `cuts::ends::wider` meets its contract. Assumes nothing.
use Rattle.cuts.proofs.ends.wider.Goals as goal

pub returns : goal.returns
returns c = (c.lesser.ensures, c.greater.ensures)
