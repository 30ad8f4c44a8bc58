-- `cuts::rows::put_row` meets its contract. Assumes nothing.
use Rattle.cuts.proofs.Places.{put_both}
use Rattle.cuts.proofs.rows.put_row.Goals as goal

pub returns : goal.returns
returns c = put_both _ _ _ c.put_low.ensures c.put_low-2.ensures
