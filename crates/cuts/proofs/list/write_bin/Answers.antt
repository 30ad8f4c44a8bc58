-- `cuts::list::write_bin` meets its contract. Assumes nothing.
use mathlib.Core.Path.{refl, sym, ◌∙◌}
use Rattle.stock.specs.declared.TurnSide.TheVariants.{Outer, Inner}
use Rattle.reach.specs.Reach.{act_cell}
use Rattle.changes.proofs.Placed.{list_same}
use Rattle.cuts.specs.Source.{source_act}
use Rattle.cuts.proofs.EachBin.{bin-passed, bin-after, listed-as}
use Rattle.cuts.proofs.Left.{bin-left}
use Rattle.cuts.proofs.list.write_bin.Goals as goal

pub returns-then-leaves : goal.returns-then-leaves
returns-then-leaves c = let a = c.args in
    list_same _ _ _ _ (bin-left a.s a.source a.values.now a.there.now a.cells.now a.i _ c.cell_at-before.ensures (c.leaves.ensures c.if-leaves.true) c.requires.1)

pub returns-in_default : goal.returns-in_default
returns-in_default c = let a = c.args in
    list_same _ _ _ _ (bin-passed (source_act a.s a.source a.values.now a.there.now) a.cells.now a.i _ c.write_reach-reached.ensures (sym c.low_of-low.ensures ∙ c.in_default.is) c.requires.1)

pub returns-in-Outer : goal.returns-in-Outer
returns-in-Outer c = let a = c.args in
    let act = source_act a.s a.source a.values.now a.there.now in
    let after = bin-after act a.cells.now a.i Outer _ _ _ (sym c.in-Outer.is ∙ c.side_of-side.ensures) c.write_reach-reached.ensures c.cell_at-before.ensures refl in
    listed-as (act_cell act) a.cells.now a.i _ _ _ _ c.cell_at-before.ensures after c.put_outer.ensures

pub returns-in-Inner : goal.returns-in-Inner
returns-in-Inner c = let a = c.args in
    let act = source_act a.s a.source a.values.now a.there.now in
    let after = bin-after act a.cells.now a.i Inner _ _ _ (sym c.in-Inner.is ∙ c.side_of-side.ensures) c.write_reach-reached.ensures c.cell_at-before.ensures refl in
    listed-as (act_cell act) a.cells.now a.i _ _ _ _ c.cell_at-before.ensures after c.put_inner.ensures
