-- The loop of `change_slices::put_all`. The invariant: what is left of the list leads from the cells so far where the whole list leads. Assumes nothing.
use Rattle.std.proofs.Common.{◌≡◌, drop}
use Rattle.changes.specs.Commit.{put_all}
use Rattle.change_slices.proofs.put_all.Given as goal

abbrev pub invariant-loop-change : goal.invariant-loop-change
invariant-loop-change l = put_all l.cells (drop l.change-index l.changes) ≡ put_all l.initial.cells l.changes
