-- The loop of `change_slices::renew_changed`. The invariant: what is left of the list leads from the kept numbers and the open block so far where the whole list leads. Assumes nothing.
use Rattle.std.proofs.Common.{◌≡◌, drop}
use Rattle.change_slices.specs.Kept.{renewed_over}
use Rattle.change_slices.proofs.Renewed.{closed}
use Rattle.change_slices.proofs.renew_changed.Given as goal

abbrev pub invariant-loop-change : goal.invariant-loop-change
invariant-loop-change l = closed l.s l.n l.cells (record { numbers = l.blocks; block = l.block }) (drop l.change-index l.changes) ≡ renewed_over l.s l.n l.cells l.fn.blocks l.changes
