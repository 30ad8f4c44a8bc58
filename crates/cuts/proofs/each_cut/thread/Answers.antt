-- `cuts::each_cut::thread` meets its contract. Assumes nothing.
use Rattle.changes.proofs.Proposals.{same-proposal}
use Rattle.cuts.proofs.Previews.{thread-propose}
use Rattle.cuts.proofs.each_cut.thread.Goals as goal

pub returns : goal.returns
returns c = same-proposal _ _ _ _ _ _ _ (thread-propose _ _ _ _ _ _ _ _ _ _ c.least-lo.ensures c.greatest-hi.ensures _ _ c.between-bins.ensures _ _) c.list.ensures
