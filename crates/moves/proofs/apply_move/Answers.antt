-- `moves::apply_move` meets its contract. Assumes nothing.
use Rattle.std.specs.Prelude.{Result, Ok}
use mathlib.Core.Path.{refl, sym, ap, ◌∙◌}
use Rattle.refusals.specs.declared.Refused.{Refused}
use Rattle.refusals.specs.Number.{placed_of}
use Rattle.refusals.proofs.Exits.{placed_exit}
use Rattle.floats.specs.Pick.{pick}
use Rattle.stock.specs.declared.TurnStock.{TurnStock}
use Rattle.rings.specs.declared.RingCount.{RingCount}
use Rattle.rings.specs.Remove.{stock_after}
use Rattle.rings.specs.Tests.{list_tests}
use Rattle.moves.specs.Move.{is_moved}
use Rattle.moves.proofs.Moving.{moves_from}
use Rattle.moves.proofs.Told.{moved_told}
use Rattle.moves.proofs.apply_move.Goals as goal

pub returns-in_err-left : goal.returns-in_err-left
unfolding pick
returns-in_err-left c = let a = c.args in
    let refused = c.move_from in
    record {
      moves = record { left = moves_from (placed_exit _ _ c.from_residual.ensures.1 ∙ sym (ap (λ (t : Result RingCount Refused). stock_after a.stock (placed_of t)) c.in_err-left.was)) refused.ensures.left; kept = refused.ensures.kept };
      tests = moved_told a.stock a.cells.now a.blocks.now a.rings.now a.list a.indices.now a.records.now a.removed.now refused.result _ refused.new.rings _ a.tests.now _ refused.ensures.left refl
          (sym (ap (λ (t : Result RingCount Refused). pick (is_moved t) (list_tests a.stock.spec refused.new.rings a.stock.rings a.removed.now a.tests.now) a.tests.now) c.in_err-left.was));
    }

pub returns : goal.returns
unfolding pick
returns c = let a = c.args in
    let moved = c.move_from in
    record {
      moves = record { left = moves_from (ap (λ (k : TurnStock). placed_of (Ok k)) c.stock_with.ensures ∙ sym (ap (λ (t : Result RingCount Refused). stock_after a.stock (placed_of t)) c.in_ok-left.was)) moved.ensures.left; kept = moved.ensures.kept };
      tests = moved_told a.stock a.cells.now a.blocks.now a.rings.now a.list a.indices.now a.records.now a.removed.now moved.result _ moved.new.rings _ a.tests.now _ moved.ensures.left refl
          (c.list_tests.ensures ∙ sym (ap (λ (t : Result RingCount Refused). pick (is_moved t) (list_tests a.stock.spec moved.new.rings a.stock.rings a.removed.now a.tests.now) a.tests.now) c.in_ok-left.was));
    }
