-- `change_slices::kept::answer` meets its contract. Assumes nothing.
use Rattle.std.proofs.lemmas.Result.{err_from_is_err_and}
use mathlib.Core.Path.{sym, ap, ◌∙◌}
use borrow.Author.Rules.{rules}
use Rattle.refusals.specs.Number.{paper_of}
use Rattle.refusals.proofs.Exits.{plain_exit}
use Rattle.changes.specs.Decide.{is_accepted}
use Rattle.stock.proofs.Bins.{HeldSpec}
use Rattle.change_slices.proofs.Renewed.{answer-refused, answer-raised}
use Rattle.change_slices.proofs.kept.answer.Goals as goal

pub returns-in_err-asked_cells : goal.returns-in_err-asked_cells
returns-in_err-asked_cells c = answer-refused _ _ _ _ _ _ _ (sym c.asked_cells.ensures ∙ ap paper_of c.in_err-asked_cells.was) (plain_exit _ _ c.from_residual.ensures.1) (ap is_accepted (err_from_is_err_and _ c.from_residual.ensures.1).1)

pub returns : goal.returns
returns c = let g = c.well_formed.0 in
    let held : HeldSpec c.args.stock.spec = record { z-min = search (rules, g); z-max = search (rules, g); outer = search (rules, g); bore = search (rules, g); cell = search (rules, g.1.1.0) } in
    answer-raised _ _ _ _ _ _ _ held c.shared_slice_known-1.given c.shared_slice_known-2-1.given (sym c.asked_cells.ensures ∙ ap paper_of c.in_ok-asked_cells.was) c.raised.ensures
