-- `cuts::each_cut::swept_over` meets its contract. Assumes nothing.
use Rattle.changes.proofs.Proposals.{same-proposal}
use Rattle.cuts.proofs.Tools.{sweep-proposes}
use Rattle.cuts.proofs.each_cut.swept_over.Goals as goal

pub returns : goal.returns
returns c = same-proposal _ _ _ _ _ _ _ (sweep-proposes _ _ _ _ _ _ _ _ _ _ _ c.side_of.ensures c.fill-bins.ensures) c.list.ensures
