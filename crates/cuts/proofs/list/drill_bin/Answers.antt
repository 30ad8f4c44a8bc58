-- `cuts::list::drill_bin` meets its contract. Assumes nothing.
use mathlib.Core.Path.{◌≡◌, sym, ap, ◌∙◌, subst}
use mathlib.Core.Bool.{true}
use Prim.Native.Nat.{◌%◌}
use native.Mathlib.Omega.{arith}
use Rattle.stock.specs.declared.TurnCell.{TurnCell}
use Rattle.stock.specs.declared.TurnSide.TheVariants.{Inner}
use Rattle.stock.specs.declared.ZRange.{ZRange}
use Rattle.stock.specs.Bin.{bin_of}
use Rattle.stock.specs.Cell.{cell_at, same_cell}
use Rattle.reach.specs.declared.Reach.TheVariants.{Both}
use Rattle.reach.specs.Reach.{cut_cell, act_cell}
use Rattle.changes.proofs.Placed.{list_same}
use Rattle.cuts.specs.Cut.{drill_at}
use Rattle.cuts.specs.Source.{bore_act, drill_both}
use Rattle.cuts.proofs.EachBin.{listed-as}
use Rattle.cuts.proofs.list.drill_bin.Goals as goal

pub returns-then-drill_leaves : goal.returns-then-drill_leaves
returns-then-drill_leaves c = let a = c.args in
    let cell = cell_at a.cells.now a.i in
    let stays : cut_cell Inner cell (drill_both (bin_of a.s a.i) a.tip a.radius a.cone) ≡ cell = subst (λ (x : TurnCell). cut_cell Inner x (drill_both (bin_of a.s a.i) a.tip a.radius a.cone) ≡ x) c.cell_at-before.ensures (c.drill_leaves.ensures c.if-drill_leaves.true (bin_of a.s a.i) a.tip a.cone) in
    (list_same _ _ _ _ (ap (same_cell cell) stays ∙ c.requires.1), c.requires.3)

pub kept-high-requires : goal.kept-high-requires
kept-high-requires c = c.requires.3

pub put_drill-k-requires : goal.put_drill-k-requires
put_drill-k-requires c = let p = c.requires in
    (p.2, subst (λ (x : TurnCell). same_cell x x ≡ true) (sym c.cell_at-before.ensures) p.1)

pub returns : goal.returns
returns c = let a = c.args in
    let small : a.i % 4294967296 ≡ a.i = omega (arith, c.requires.0) in
    let bin = c.bin_of-bin.ensures ∙ ap (bin_of a.s) small in
    let low = c.drill_at-low.ensures ∙ ap (λ (x : ZRange). drill_at x.zb a.tip a.radius a.cone) bin in
    let high = c.kept-high.ensures ∙ ap (λ (x : ZRange). drill_at x.za a.tip a.radius a.cone) bin in
    (listed-as (act_cell (bore_act a.s a.tip a.radius a.cone)) a.cells.now a.i _ _ _ _ c.cell_at-before.ensures (λ j. cut_cell Inner (c.cell_at-before.ensures j) (Both (low j) (high j))) c.put_drill-k.ensures, c.drill_at-low.ensures)
