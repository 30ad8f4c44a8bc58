-- `cuts::list::count_bin` meets its contract. Assumes nothing.
use mathlib.Core.Path.{sym, ap₂, ◌∙◌}
use Rattle.stock.specs.Cell.{same_cell}
use Rattle.cuts.specs.Source.{source_act}
use Rattle.cuts.proofs.EachBin.{bin-passed, bin-after, none-counted, one-counted}
use Rattle.cuts.proofs.Left.{bin-left}
use Rattle.cuts.proofs.list.count_bin.Goals as goal

pub returns-then-leaves : goal.returns-then-leaves
returns-then-leaves c = let a = c.args in
    none-counted _ _ _ _ (bin-left a.s a.source a.values.now a.there.now a.cells.now a.i _ c.cell_at-before.ensures (c.leaves.ensures c.if-leaves.true) c.requires.2)

pub returns-in_default : goal.returns-in_default
returns-in_default c = let a = c.args in
    none-counted _ _ _ _ (bin-passed (source_act a.s a.source a.values.now a.there.now) a.cells.now a.i _ c.reach_at-reached.ensures (sym c.low_of-low.ensures ∙ c.in_default.is) c.requires.2)

pub returns-then-same_cell : goal.returns-then-same_cell
returns-then-same_cell c = let a = c.args in
    let after = bin-after (source_act a.s a.source a.values.now a.there.now) a.cells.now a.i _ _ _ _ c.side_of.ensures c.reach_at-reached.ensures c.cell_at-before.ensures c.cut_cell-after.ensures in
    none-counted _ _ _ _ (sym (ap₂ same_cell c.cell_at-before.ensures after) ∙ sym c.same_cell.ensures ∙ c.if-same_cell.true)

pub returns : goal.returns
returns c = let a = c.args in
    let after = bin-after (source_act a.s a.source a.values.now a.there.now) a.cells.now a.i _ _ _ _ c.side_of.ensures c.reach_at-reached.ensures c.cell_at-before.ensures c.cut_cell-after.ensures in
    one-counted _ _ _ _ (sym (ap₂ same_cell c.cell_at-before.ensures after) ∙ sym c.same_cell.ensures ∙ c.if-same_cell.false)
