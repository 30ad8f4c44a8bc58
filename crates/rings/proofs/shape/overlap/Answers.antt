-- `rings::shape::overlap` meets its contract. Assumes nothing.
use Rattle.rings.proofs.shape.overlap.Goals as goal

pub returns : goal.returns
returns c = simp (c.greatest.ensures, c.least.ensures, c.greatest-2.ensures, c.least-2.ensures)
