-- `changes::tally_differences` meets its contract. Assumes nothing.
use mathlib.Core.Path.{sym, ap, ◌∙◌}
use Rattle.refusals.specs.Number.{paper_of}
use Rattle.refusals.proofs.Exits.{same_exit}
use Rattle.changes.proofs.Proposals.{left_at, same-proposal}
use Rattle.changes.proofs.Differences.{both-held, differ-refused, differ-other, differ-is}
use Rattle.changes.proofs.tally_differences.Goals as goal

pub list_differences-requires : goal.list_differences-requires
list_differences-requires c = both-held _ _ _ _ _ (sym c.cells_fit.ensures ∙ ap paper_of c.in_ok-n.was) (sym c.cells_fit-2.ensures ∙ ap paper_of c.in_ok-cells_fit.was)

pub returns-in_err-n : goal.returns-in_err-n
returns-in_err-n c = left_at _ _ _ _ _ (same_exit _ _ c.from_residual.ensures.1) (differ-refused _ _ _ _ _ (sym c.cells_fit.ensures ∙ ap paper_of c.in_err-n.was))

pub returns-in_err-cells_fit : goal.returns-in_err-cells_fit
returns-in_err-cells_fit c = left_at _ _ _ _ _ (same_exit _ _ c.from_residual-in_err-cells_fit.ensures.1) (differ-other _ _ _ _ _ _ (sym c.cells_fit.ensures ∙ ap paper_of c.in_ok-n.was) (sym c.cells_fit-2.ensures ∙ ap paper_of c.in_err-cells_fit.was))

pub returns : goal.returns
returns c = same-proposal _ _ _ _ _ _ _
    (differ-is _ _ _ _ _ _ (sym c.cells_fit.ensures ∙ ap paper_of c.in_ok-n.was) (sym c.cells_fit-2.ensures ∙ ap paper_of c.in_ok-cells_fit.was))
    c.list_differences.ensures
