-- `changes::asked` meets its contract. Assumes nothing.
use mathlib.Core.Path.{sym, ap, ◌∙◌}
use borrow.Author.Tests.{not-true, not-false}
use Rattle.stock.specs.declared.TurnCell.{TurnCell}
use Rattle.stock.specs.Cell.{same_cell}
use Rattle.changes.proofs.Decided.{no-bin, holds-other, adds, asked-all}
use Rattle.changes.proofs.asked.Goals as goal

pub returns-then-n-index : goal.returns-then-n-index
returns-then-n-index c = no-bin _ _ _ c.if-n-index.true

pub returns-then-not-same_cell : goal.returns-then-not-same_cell
returns-then-not-same_cell c = let a = c.args in
    holds-other _ _ a.change c.if-n-index.false (ap (λ (x : TurnCell). same_cell x a.change.before) (sym c.cell_at-held.ensures) ∙ sym c.same_cell.ensures ∙ not-true _ c.if-not-same_cell.true-raw)

pub returns-then-not-only_removes : goal.returns-then-not-only_removes
returns-then-not-only_removes c = let a = c.args in
    adds _ _ a.change c.if-n-index.false (ap (λ (x : TurnCell). same_cell x a.change.before) (sym c.cell_at-held.ensures) ∙ sym c.same_cell.ensures ∙ not-false _ c.if-not-same_cell.false-raw) (sym c.only_removes.ensures ∙ not-true _ c.if-not-only_removes.true-raw)

pub returns : goal.returns
returns c = let a = c.args in
    asked-all _ _ a.change c.if-n-index.false (ap (λ (x : TurnCell). same_cell x a.change.before) (sym c.cell_at-held.ensures) ∙ sym c.same_cell.ensures ∙ not-false _ c.if-not-same_cell.false-raw) (sym c.only_removes.ensures ∙ not-false _ c.if-not-only_removes.false-raw)
