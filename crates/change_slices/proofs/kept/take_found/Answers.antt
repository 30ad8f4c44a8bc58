-- `change_slices::kept::take_found` meets its contract. Assumes nothing.
use Rattle.std.proofs.lemmas.Result.{err_from_is_err_and}
use mathlib.Core.Path.{sym, ap, ◌∙◌}
use borrow.Author.Rules.{rules}
use Rattle.refusals.specs.Number.{paper_of}
use Rattle.refusals.proofs.Exits.{plain_exit}
use Rattle.stock.proofs.Bins.{HeldSpec}
use Rattle.moves.specs.Move.{is_moved}
use Rattle.change_slices.proofs.Taking.{take_none, take_all}
use Rattle.change_slices.proofs.kept.take_found.Goals as goal

pub returns-in_err-n : goal.returns-in_err-n
returns-in_err-n c = take_none _ _ _ _ _ _ _ _ _ (sym c.cells_fit.ensures ∙ ap paper_of c.in_err-n.was) (plain_exit _ _ c.from_residual.ensures.1) (ap is_moved (err_from_is_err_and _ c.from_residual.ensures.1).1)

pub returns : goal.returns
returns c = let g = c.well_formed.0 in
    let held : HeldSpec c.args.stock.spec = record { z-min = search (rules, g); z-max = search (rules, g); outer = search (rules, g); bore = search (rules, g.1.1.0); cell = search (rules, g.1.1.0) } in
    take_all _ _ _ _ _ _ _ _ _ _ held c.shared_slice_known-1.given c.shared_slice_known-2-1.given (sym c.cells_fit.ensures ∙ ap paper_of c.in_ok-n.was) c.take_rings.ensures
