-- `moves::move_in` meets its contract. Assumes nothing.
use mathlib.Core.Path.{refl, sym}
use Rattle.floats.specs.Pick.{pick-false}
use Rattle.moves.proofs.Moving.{told_of, put_is, handed-on, past_it, shifts_none, shifts-all}
use Rattle.moves.proofs.Kept.{then-renewed}
use Rattle.moves.proofs.move_in.Goals as goal

pub returns-in_err-left : goal.returns-in_err-left
returns-in_err-left c = let a = c.args in
    let stay = handed-on _ c.take_rings.ensures _ _ c.in_err-left.was c.from_residual.ensures.1 in
    record {
      left =
          shifts_none a.stock a.n a.cells.now a.blocks.now a.rings.now a.list.stamp _ a.removed.now _
          (told_of _ a.stock a.n a.cells.now a.indices.now a.records.now a.list.count _ c.clean_spec-s.ensures c.requires c.first_refusal-found.ensures) _ _ stay.0 stay.1;
      kept = sym (pick-false _ _ _ stay.1);
    }

pub returns : goal.returns
returns c = let a = c.args in
    then-renewed a.stock a.n _ _ _ _ a.blocks.now _ _ _ a.indices.now a.list.count _
    (shifts-all a.stock a.n a.cells.now a.blocks.now a.rings.now a.list.stamp _ a.removed.now _
    (told_of _ a.stock a.n a.cells.now a.indices.now a.records.now a.list.count _ c.clean_spec-s.ensures c.requires c.first_refusal-found.ensures) _ _ (past_it _ c.take_rings.ensures _ c.in_ok-left.was) refl _
    (put_is _ _ _ _ _ c.requires c.put_after.ensures))
    c.renew_changed.ensures c.clean_spec-s.ensures refl
