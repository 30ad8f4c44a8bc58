-- `passes::checkable` meets its contract. Assumes nothing.
use mathlib.Core.Path.{sym, ap, ap₂, ◌∙◌}
use mathlib.Core.Bool.{Bool, ◌&&◌}
use borrow.Author.Tests.{not-true, not-false}
use Rattle.refusals.specs.Number.{paper_of}
use Rattle.refusals.proofs.Exits.{same_exit}
use Rattle.stock.specs.declared.TurnStockSpec.{TurnStockSpec}
use Rattle.blocks.specs.Block.{matches_of}
use Rattle.passes.proofs.Verdicts.{asks-refused, asks-room, asks-unmatched, asks-count, asks-lists, asks-is}
use Rattle.passes.proofs.checkable.Goals as goal

pub returns-then-room-cells : goal.returns-then-room-cells
returns-then-room-cells c = let a = c.args in
    sym (asks-room a.spec a.cells.now a.blocks.now a.targets.now a.kinds.now a.room a.numbers c.in_ok-n.n (sym c.cells_fit.ensures ∙ ap paper_of c.in_ok-n.was) c.if-room-cells.true)

pub returns-then-not-matches : goal.returns-then-not-matches
returns-then-not-matches c = let a = c.args in
    let m = ap (λ (s : TurnStockSpec). matches_of s c.in_ok-n.n a.cells.now a.blocks.now) (sym c.clean_spec.ensures) ∙ sym c.matches.ensures ∙ not-true _ c.if-not-matches.true-raw in
    sym (asks-unmatched a.spec a.cells.now a.blocks.now a.targets.now a.kinds.now a.room a.numbers c.in_ok-n.n (sym c.cells_fit.ensures ∙ ap paper_of c.in_ok-n.was) c.if-room-cells.false m)

pub returns-then-numbers-blocks : goal.returns-then-numbers-blocks
returns-then-numbers-blocks c = let a = c.args in
    let m = ap (λ (s : TurnStockSpec). matches_of s c.in_ok-n.n a.cells.now a.blocks.now) (sym c.clean_spec.ensures) ∙ sym c.matches.ensures ∙ not-false _ c.if-not-matches.false-raw in
    sym (asks-count a.spec a.cells.now a.blocks.now a.targets.now a.kinds.now a.room a.numbers c.in_ok-n.n (sym c.cells_fit.ensures ∙ ap paper_of c.in_ok-n.was) c.if-room-cells.false m c.if-numbers-blocks.true)

pub returns-then-are_good : goal.returns-then-are_good
returns-then-are_good c = let a = c.args in
    let m = ap (λ (s : TurnStockSpec). matches_of s c.in_ok-n.n a.cells.now a.blocks.now) (sym c.clean_spec.ensures) ∙ sym c.matches.ensures ∙ not-false _ c.if-not-matches.false-raw in
    sym (asks-is a.spec a.cells.now a.blocks.now a.targets.now a.kinds.now a.room a.numbers c.in_ok-n.n (sym c.cells_fit.ensures ∙ ap paper_of c.in_ok-n.was) c.if-room-cells.false m c.if-numbers-blocks.false (ap₂ (λ (s t : Bool). s && t) (sym c.are_good.ensures) (sym c.are_good-2.ensures) ∙ c.if-are_good.true))

pub returns-in_err-n : goal.returns-in_err-n
returns-in_err-n c = let a = c.args in
    same_exit _ _ c.from_residual.ensures.1 ∙ sym (asks-refused a.spec a.cells.now a.blocks.now a.targets.now a.kinds.now a.room a.numbers _ (sym c.cells_fit.ensures ∙ ap paper_of c.in_err-n.was))

pub returns : goal.returns
returns c = let a = c.args in
    let m = ap (λ (s : TurnStockSpec). matches_of s c.in_ok-n.n a.cells.now a.blocks.now) (sym c.clean_spec.ensures) ∙ sym c.matches.ensures ∙ not-false _ c.if-not-matches.false-raw in
    sym (asks-lists a.spec a.cells.now a.blocks.now a.targets.now a.kinds.now a.room a.numbers c.in_ok-n.n (sym c.cells_fit.ensures ∙ ap paper_of c.in_ok-n.was) c.if-room-cells.false m c.if-numbers-blocks.false (ap₂ (λ (s t : Bool). s && t) (sym c.are_good.ensures) (sym c.are_good-2.ensures) ∙ c.if-are_good.false))
