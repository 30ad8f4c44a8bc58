-- `job_streams::gather_answer` meets its contract. Assumes nothing.
use Rattle.std.proofs.Common.{◌≤◌, ◌<◌, length, take}
use Rattle.job_run.specs.Run.{state, output_of, most_lines}
use Rattle.job_streams.specs.Write.{AllPut}
use Rattle.job_streams.proofs.gather_answer.Given as goal

abbrev pub invariant-loop-k : goal.invariant-loop-k
invariant-loop-k g l = (0 < l.k → length (output_of (state l.run l.cells l.rings)) ≤ most_lines) × AllPut (take l.k (output_of (state l.run l.cells l.rings))) l.out l.gathered
