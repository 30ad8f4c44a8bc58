-- The loop of `change_slices::decide`. The invariant: the steps of what is left of the list lead from the state so far where those of the whole list lead. Assumes nothing.
use Rattle.std.proofs.Common.{◌≡◌, drop}
use Rattle.changes.specs.Decide.{deciding_paper, on_cells, steps_of}
use Rattle.change_slices.proofs.decide.Given as goal

abbrev pub invariant-loop-change : goal.invariant-loop-change
invariant-loop-change l = steps_of l.cells (deciding_paper l.st) (drop l.change-index l.changes) ≡ steps_of l.cells (on_cells l.fn.s l.n) l.changes
