-- `insert::candidates::beyond` meets its contract. Assumes nothing.
use Rattle.floats.specs.Pick.{picks}
use Rattle.insert.specs.Insert.{beyond}
use Rattle.insert.proofs.candidates.beyond.Goals as goal

pub returns-then-o : goal.returns-then-o
unfolding beyond
returns-then-o c = search (picks, c.in-Least.is)

pub returns-else-o : goal.returns-else-o
unfolding beyond
returns-else-o c = search (picks, c.in-Least.is)

pub returns-in-Greatest : goal.returns-in-Greatest
unfolding beyond
returns-in-Greatest c = search (picks, c.in-Greatest.is)
