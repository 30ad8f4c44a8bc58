-- `cuts::thread_cut` meets its contract: it is that of the cut's preview. Assumes nothing.
use Rattle.cuts.proofs.thread_cut.Goals as goal

pub returns : goal.returns
returns c = c.preview_cut.ensures
