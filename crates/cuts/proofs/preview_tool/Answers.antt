-- `cuts::preview_tool` meets its contract. Assumes nothing.
use Rattle.changes.proofs.Proposals.{as-list}
use Rattle.cuts.proofs.preview_tool.Goals as goal

pub returns : goal.returns
returns c = as-list c.list_of.ensures c.tally_tool-tally.ensures
