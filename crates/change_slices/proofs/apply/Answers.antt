-- `change_slices::apply` meets its contract. Assumes nothing.
use mathlib.Core.Path.{refl}
use Rattle.refusals.specs.Number.{placed_of}
use Rattle.change_slices.proofs.Renewed.{unwritten, written_all, answers-on, answers-past, commit-done}
use Rattle.change_slices.proofs.apply.Goals as goal

pub returns-in_err-after : goal.returns-in_err-after
returns-in_err-after c = let a = c.args in
    let on = answers-on a.stock a.cells.now a.blocks.now a.stamp (placed_of c.decide-found.result) _ c.answer.ensures _ _ c.in_err-after.was c.from_residual.ensures.1 in
    commit-done a.stock a.cells.now a.blocks.now a.stamp a.changes.now _ _ _ _ _ _ c.clean-s.ensures c.decide-found.ensures on.0 on.1 (unwritten _ _ _ _ _ refl)

pub returns : goal.returns
returns c = let a = c.args in
    commit-done a.stock a.cells.now a.blocks.now a.stamp a.changes.now _ _ _ _ _ _ c.clean-s.ensures c.decide-found.ensures
    (answers-past a.stock a.cells.now a.blocks.now a.stamp (placed_of c.decide-found.result) _ c.answer.ensures _ c.in_ok-after.was) refl (written_all _ _ _ _ _ _ _ refl c.put_all.ensures c.renew_changed.ensures)
