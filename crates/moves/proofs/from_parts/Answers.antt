-- `moves::from_parts` meets its contract. Assumes nothing.
use Rattle.std.specs.Prelude.{Result}
use mathlib.Core.Path.{refl, sym, ap, ◌∙◌}
use Prim.Native.Nat.{ℕ, ◌/◌}
use lib.ListN.{length}
use Rattle.refusals.specs.declared.Refused.{Refused}
use Rattle.refusals.specs.Number.{placed_of}
use Rattle.refusals.proofs.Exits.{placed_exit}
use Rattle.floats.specs.Pick.{pick}
use Rattle.stock.specs.declared.TurnStockSpec.{TurnStockSpec}
use Rattle.blocks.specs.Renew.{renewed_all}
use Rattle.rings.specs.Tests.{list_tests}
use Rattle.moves.specs.Move.{stock_stored}
use Rattle.moves.specs.Then.{stored_kept, is_stored}
use Rattle.moves.proofs.Parting.{rebuilds-from}
use Rattle.moves.proofs.Told.{rebuilt-told}
use Rattle.moves.proofs.from_parts.Goals as goal

pub returns-in_err-stored : goal.returns-in_err-stored
unfolding pick
returns-in_err-stored c = let a = c.args in
    let stored = c.store_parts in
    record {
      rebuilds = rebuilds-from a.spec a.edition a.cells.now a.given.now a.rings.now a.blocks.now _ _ stored.result _
          (placed_exit _ _ c.from_residual.ensures.1 ∙ sym (ap (λ (t : Result ℕ Refused). stock_stored a.spec a.edition (placed_of t)) c.in_err-stored.was)) stored.ensures
          (sym (ap (λ (t : Result ℕ Refused). stored_kept t a.spec a.cells.now a.blocks.now) c.in_err-stored.was));
      tests = rebuilt-told a.spec a.cells.now _ a.given.now a.rings.now stored.new.rings stored.result _ a.tests.now _ stored.ensures refl
          (sym (ap (λ (t : Result ℕ Refused). pick (is_stored t) (list_tests a.spec stored.new.rings 0 a.given.now a.tests.now) a.tests.now) c.in_err-stored.was));
    }

pub returns : goal.returns
unfolding pick
returns c = let a = c.args in
    let stored = c.store_parts in
    record {
      rebuilds = rebuilds-from a.spec a.edition a.cells.now a.given.now a.rings.now a.blocks.now _ _ stored.result _
          (sym (ap (λ (t : Result ℕ Refused). stock_stored a.spec a.edition (placed_of t)) c.in_ok-stored.was)) stored.ensures
          (c.renew_all.ensures ∙ ap (λ (s : TurnStockSpec). renewed_all s (length a.cells.now / 4) a.cells.now a.blocks.now) c.clean_spec-s.ensures ∙ sym (ap (λ (t : Result ℕ Refused). stored_kept t a.spec a.cells.now a.blocks.now) c.in_ok-stored.was));
      tests = rebuilt-told a.spec a.cells.now _ a.given.now a.rings.now stored.new.rings stored.result _ a.tests.now _ stored.ensures refl
          (c.list_tests.ensures ∙ sym (ap (λ (t : Result ℕ Refused). pick (is_stored t) (list_tests a.spec stored.new.rings 0 a.given.now a.tests.now) a.tests.now) c.in_ok-stored.was));
    }
