-- `insert::samples::moved` meets its contract. Assumes nothing.
use Rattle.floats.specs.Pick.{picks}
use Rattle.insert.proofs.samples.moved.Goals as goal

pub returns-in-Least : goal.returns-in-Least
returns-in-Least c = search (picks, c.in-Least.is)

pub returns-in-Greatest : goal.returns-in-Greatest
returns-in-Greatest c = search (picks, c.in-Greatest.is)
