-- `changes::outcome` meets its contract. Assumes nothing.
use Rattle.refusals.specs.Paper.{papers}
use Rattle.floats.specs.Pick.{picks}
use Rattle.changes.specs.Decide.{outcome_of}
use Rattle.changes.proofs.outcome.Goals as goal

pub returns-then-not-st : goal.returns-then-not-st
unfolding outcome_of
returns-then-not-st c = search (papers, picks, c.at.ensures)

pub returns : goal.returns
unfolding outcome_of
returns c = search (papers, picks)
