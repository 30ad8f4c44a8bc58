-- `insert::edges::further` meets its contract. Assumes nothing.
use Rattle.floats.specs.Pick.{picks}
use Rattle.insert.specs.Insert.{further}
use Rattle.insert.proofs.edges.further.Goals as goal

pub returns-in_default : goal.returns-in_default
unfolding further
returns-in_default c = search (picks, c.in_default.is)

pub returns-in_default-b : goal.returns-in_default-b
unfolding further
returns-in_default-b c = search (picks, c.in-Some.is, c.in_default-b.is)

pub returns : goal.returns
unfolding further
returns c = search (picks, ← c.chosen.ensures, c.in-Some.is, c.in-Some-b.is)
