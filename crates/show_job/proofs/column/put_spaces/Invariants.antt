-- `show_job::column::put_spaces` meets its contract. Assumes nothing.
use Rattle.std.proofs.Common.{◌≤◌, length}
use Rattle.show_job.proofs.column.put_spaces.Given as goal

abbrev pub invariant-loop : goal.invariant-loop
invariant-loop l = l.o ≤ length l.initial.out
