-- `insert::chosen` meets its contract. Assumes nothing.
use Rattle.floats.specs.Pick.{picks}
use Rattle.insert.proofs.chosen.Goals as goal

pub returns-in-Least : goal.returns-in-Least
returns-in-Least c = search (picks, ← c.least.ensures, c.in-Least.is)

pub returns-in-Greatest : goal.returns-in-Greatest
returns-in-Greatest c = search (picks, ← c.greatest.ensures, c.in-Greatest.is)
