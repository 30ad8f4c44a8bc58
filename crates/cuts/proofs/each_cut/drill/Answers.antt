-- `cuts::each_cut::drill` meets its contract. Assumes nothing.
use Rattle.changes.proofs.Proposals.{same-proposal}
use Rattle.cuts.proofs.Previews.{drill-propose}
use Rattle.cuts.proofs.each_cut.drill.Goals as goal

pub returns : goal.returns
returns c = same-proposal _ _ _ _ _ _ _ (drill-propose _ _ _ _ _ _ _ _ c.find-first.ensures _ _) c.list.ensures
