-- `streams::write_out` meets its contract. Assumes nothing.
use Rattle.std.proofs.Common.{rules}
use Rattle.streams.proofs.Moved.{taken}
use Rattle.streams.proofs.write_out.Goals as goal
use Rattle.streams.proofs.write_out.Goals.{in-Bytes, in-Nothing}

pub overflow_add-done : goal.overflow_add-done
overflow_add-done g c = search (rules, taken _ c.in-Bytes.is c.write_some.ensures)

pub loop-preserved : goal.loop-preserved
loop-preserved g c =
    elim c.match-write_some.branch [
      | in-Bytes w ↦ search (rules, taken _ w.in-Bytes.is c.write_some.ensures)
      | in-Nothing w ↦ search rules
    ]
