-- `changes::asked_cells` meets its contract. Assumes nothing.
use mathlib.Core.Path.{sym, ap, ◌∙◌}
use borrow.Author.Tests.{not-true, not-false}
use Rattle.refusals.specs.Number.{paper_of}
use Rattle.refusals.proofs.Exits.{same_exit}
use Rattle.stock.specs.declared.TurnStockSpec.{TurnStockSpec}
use Rattle.blocks.specs.Block.{matches_of}
use Rattle.changes.proofs.Written.{asked-refused, asked-stale, asked-unmatched, asked_is}
use Rattle.changes.proofs.asked_cells.Goals as goal

pub returns-then-not-same_stamp : goal.returns-then-not-same_stamp
returns-then-not-same_stamp c = sym (asked-stale _ _ _ _ _ (sym c.cells_fit.ensures ∙ ap paper_of c.in_ok-n.was) (sym c.same_stamp.ensures ∙ not-true _ c.if-not-same_stamp.true-raw))

pub returns-then-not-matches : goal.returns-then-not-matches
returns-then-not-matches c = let a = c.args in
    sym
    (asked-unmatched _ _ _ _ _ (sym c.cells_fit.ensures ∙ ap paper_of c.in_ok-n.was) (sym c.same_stamp.ensures ∙ not-false _ c.if-not-same_stamp.false-raw)
    (ap (λ (s : TurnStockSpec). matches_of s c.in_ok-n.n a.cells.now a.blocks.now) (sym c.clean_spec.ensures) ∙ sym c.matches.ensures ∙ not-true _ c.if-not-matches.true-raw))

pub returns-in_err-n : goal.returns-in_err-n
returns-in_err-n c = same_exit _ _ c.from_residual.ensures.1 ∙ sym (asked-refused _ _ _ _ _ (sym c.cells_fit.ensures ∙ ap paper_of c.in_err-n.was))

pub returns : goal.returns
returns c = let a = c.args in
    sym
    (asked_is _ _ _ _ _ (sym c.cells_fit.ensures ∙ ap paper_of c.in_ok-n.was) (sym c.same_stamp.ensures ∙ not-false _ c.if-not-same_stamp.false-raw)
    (ap (λ (s : TurnStockSpec). matches_of s c.in_ok-n.n a.cells.now a.blocks.now) (sym c.clean_spec.ensures) ∙ sym c.matches.ensures ∙ not-false _ c.if-not-matches.false-raw))
