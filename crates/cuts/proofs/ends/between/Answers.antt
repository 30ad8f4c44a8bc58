-- `cuts::ends::between` meets its contract. Assumes nothing.
use Rattle.cuts.proofs.Grades.{between_none, between-some}
use Rattle.cuts.proofs.ends.between.Goals as goal

pub returns-then-to-from : goal.returns-then-to-from
returns-then-to-from c = between_none c.find-from.ensures c.find-to.ensures c.if-to-from.true

pub returns : goal.returns
returns c = between-some c.find-from.ensures c.find-to.ensures c.if-to-from.false
