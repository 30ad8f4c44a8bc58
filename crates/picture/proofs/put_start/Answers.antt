-- `picture::put_start` meets its contract. Assumes nothing.
use Rattle.picture.proofs.Texts.{start-put}
use Rattle.picture.proofs.put_start.Goals as goal

pub returns : goal.returns
returns c = start-put _ _ c.put-a.ensures c.put_length-b.ensures c.put-c.ensures c.put_length.ensures
