-- `cuts::list::put_outer` meets its contract. Assumes nothing.
use Rattle.cuts.proofs.EachBin.{listed-cut}
use Rattle.cuts.proofs.list.put_outer.Goals as goal

pub returns : goal.returns
returns c = listed-cut _ _ _ _ _ _ _ c.cut_cell-after.ensures c.list_change.ensures
