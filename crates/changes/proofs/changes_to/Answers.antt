-- `changes::changes_to` meets its contract. Assumes nothing.
use Rattle.changes.proofs.Proposals.{as-list}
use Rattle.changes.proofs.changes_to.Goals as goal

pub returns : goal.returns
returns c = as-list c.list_of.ensures c.tally_differences-tally.ensures
