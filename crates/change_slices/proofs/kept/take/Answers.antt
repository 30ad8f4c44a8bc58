-- `change_slices::kept::take` meets its contract. Assumes nothing.
use mathlib.Core.Path.{refl}
use Rattle.refusals.specs.Number.{placed_of}
use Rattle.floats.specs.Pick.{pick}
use Rattle.change_slices.proofs.Taking.{takes-on, takes-past, take-told}
use Rattle.change_slices.proofs.kept.take.Goals as goal

pub returns-in_err-left : goal.returns-in_err-left
unfolding pick
returns-in_err-left c = let a = c.args in
    let on = takes-on a.stock a.cells.now a.blocks.now a.rings.now a.stamp a.removed.now (placed_of a.found) _ _ c.take_found.ensures _ _ c.in_err-left.was c.from_residual.ensures.1 in
    take-told a.stock a.cells.now a.blocks.now a.rings.now a.stamp a.removed.now (placed_of a.found) _ c.take_found.new.rings _ a.tests.now _ on.0 on.1 refl

pub returns : goal.returns
unfolding pick
returns c = let a = c.args in
    take-told a.stock a.cells.now a.blocks.now a.rings.now a.stamp a.removed.now (placed_of a.found) _ c.take_found.new.rings _ a.tests.now _
    (takes-past a.stock a.cells.now a.blocks.now a.rings.now a.stamp a.removed.now (placed_of a.found) _ _ c.take_found.ensures _ c.in_ok-left.was) refl c.list_tests.ensures
