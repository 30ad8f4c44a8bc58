-- `envelope::passes` meets its contract. Assumes nothing.
use Rattle.floats.specs.Pick.{picks}
use Rattle.envelope.proofs.passes.Goals as goal

pub returns-in-Below : goal.returns-in-Below
returns-in-Below c = search (picks, c.in-Below.is)

pub returns-in-AtMost : goal.returns-in-AtMost
returns-in-AtMost c = search (picks, c.in-AtMost.is)

pub returns-in-Above : goal.returns-in-Above
returns-in-Above c = search (picks, c.in-Above.is)

pub returns-in-AtLeast : goal.returns-in-AtLeast
returns-in-AtLeast c = search (picks, c.in-AtLeast.is)
