-- `job_words::read_nose` meets its contract. Assumes nothing.
use Rattle.floats.specs.Pick.{picks}
use Rattle.job_words.specs.Kind.{nose_of}
use Rattle.job_words.proofs.read_nose.Goals as goal

pub returns-then-same : goal.returns-then-same
unfolding nose_of
returns-then-same c = search (picks, ← c.read_nose_on.ensures, ← c.same.ensures, ← c.part-w.ensures)

pub returns-then-same-2 : goal.returns-then-same-2
unfolding nose_of
returns-then-same-2 c = search (picks, ← c.read_nose_on-then-same-2.ensures, ← c.same-2.ensures, ← c.same.ensures, ← c.part-w.ensures)

pub returns : goal.returns
unfolding nose_of
returns c = search (picks, ← c.same-2.ensures, ← c.same.ensures, ← c.part-w.ensures)
