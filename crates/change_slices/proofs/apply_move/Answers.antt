-- `change_slices::apply_move` meets its contract. Assumes nothing.
use Rattle.std.specs.Prelude.{Result, Ok}
use mathlib.Core.Path.{refl, sym, ap, ◌∙◌}
use Rattle.refusals.specs.declared.Refused.{Refused}
use Rattle.refusals.specs.Number.{placed_of}
use Rattle.refusals.proofs.Exits.{placed_exit}
use Rattle.stock.specs.declared.TurnStock.{TurnStock}
use Rattle.rings.specs.declared.RingCount.{RingCount}
use Rattle.rings.specs.Remove.{stock_after}
use Rattle.moves.specs.Move.{is_moved}
use Rattle.change_slices.proofs.Renewed.{unwritten, written_all}
use Rattle.change_slices.proofs.Taking.{move-told}
use Rattle.change_slices.proofs.apply_move.Goals as goal

pub returns-in_err-left : goal.returns-in_err-left
returns-in_err-left c = let a = c.args in
    let refused = c.take in
    move-told a.stock a.cells.now a.blocks.now a.rings.now a.stamp a.removed.now a.changes.now _ _ refused.result _ _ _ _ _ _ _ c.clean-s.ensures c.decide-found.ensures refused.ensures
    (sym (ap is_moved c.in_err-left.was)) (unwritten _ _ _ _ _ refl) (placed_exit _ _ c.from_residual.ensures.1 ∙ sym (ap (λ (t : Result RingCount Refused). stock_after a.stock (placed_of t)) c.in_err-left.was))

pub returns : goal.returns
returns c = let a = c.args in
    let taken = c.take in
    move-told a.stock a.cells.now a.blocks.now a.rings.now a.stamp a.removed.now a.changes.now _ _ taken.result _ _ _ _ _ _ _ c.clean-s.ensures c.decide-found.ensures taken.ensures
    (sym (ap is_moved c.in_ok-left.was)) (written_all _ _ _ _ _ _ _ refl c.put_all.ensures c.renew_changed.ensures)
    (ap (λ (k : TurnStock). placed_of (Ok k)) c.stock_with.ensures ∙ sym (ap (λ (t : Result RingCount Refused). stock_after a.stock (placed_of t)) c.in_ok-left.was))
