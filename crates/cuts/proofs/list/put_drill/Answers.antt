-- `cuts::list::put_drill` meets its contract. Assumes nothing.
use mathlib.Core.Bool.{true, false}
use Rattle.stock.specs.declared.TurnSide.TheVariants.{Inner}
use Rattle.reach.specs.declared.Reach.TheVariants.{Both}
use Rattle.reach.specs.Reach.{cut_cell}
use Rattle.changes.proofs.Placed.{list_same}
use Rattle.cuts.proofs.EachBin.{listed-put}
use Rattle.cuts.proofs.Left.{drill-same}
use Rattle.cuts.proofs.list.put_drill.Goals as goal

pub returns-then-lower-upper : goal.returns-then-lower-upper
returns-then-lower-upper c = let a = c.args in
    list_same _ _ _ _ (drill-same a.before _ a.low a.high c.requires.1 c.cut_cell-after.ensures true c.if-lower-upper.true)

pub returns : goal.returns
returns c = let a = c.args in
    listed-put a.k a.i a.before _ (cut_cell Inner a.before (Both a.low a.high)) c.cut_cell-after.ensures (drill-same a.before _ a.low a.high c.requires.1 c.cut_cell-after.ensures false c.if-lower-upper.false) c.requires.0 c.put.ensures
