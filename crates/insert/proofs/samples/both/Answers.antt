-- `insert::samples::both` meets its contract. Assumes nothing.
use Rattle.floats.specs.Pick.{picks}
use Rattle.insert.specs.Insert.{both}
use Rattle.insert.proofs.samples.both.Goals as goal

pub returns-in_err-a : goal.returns-in_err-a
unfolding both
returns-in_err-a c = rw c.from_residual.ensures (search (picks, c.in_err-a.was))

pub returns-in_err-b : goal.returns-in_err-b
unfolding both
returns-in_err-b c = rw c.from_residual-in_err-b.ensures (search (picks, c.in_ok-a.was, c.in_err-b.was))

pub returns : goal.returns
unfolding both
returns c = search (picks, ← c.chosen.ensures, c.in_ok-a.was, c.in_ok-b.was)
