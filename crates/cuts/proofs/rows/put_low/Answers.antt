-- `cuts::rows::put_low` meets its contract. Assumes nothing.
use Rattle.cuts.proofs.Places.{put-none, put_some}
use Rattle.cuts.proofs.rows.put_low.Goals as goal

pub returns-in_default : goal.returns-in_default
returns-in_default c = put-none _ _ _ (c.in_default.is) c.requires.1

pub returns : goal.returns
returns c = put_some _ _ _ _ (c.in-Some.is) c.requires.0 c.requires.1
