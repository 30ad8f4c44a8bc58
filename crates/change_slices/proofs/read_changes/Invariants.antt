-- The loop of `change_slices::read_changes`. The invariant: the changes read so far stand over the front of the records. Assumes nothing.
use Rattle.std.proofs.Common.{◌≡◌}
use Rattle.refusals.specs.Lent.{over}
use Rattle.changes.specs.Change.{changes_from}
use Rattle.change_slices.proofs.read_changes.Given as goal

abbrev pub invariant-loop-i : goal.invariant-loop-i
invariant-loop-i l = l.changes ≡ over (changes_from l.indices l.records l.i) l.initial.changes
