-- `job_streams::take_once` meets its contract. Assumes nothing.
use Rattle.job_streams.proofs.Taking.{read_once}
use Rattle.job_streams.proofs.take_once.Goals as goal

pub returns : goal.returns
returns g c = let t = read_once c.read_some-got.result _ _ _ c.take_part-taken.result c.take_part-taken.ensures c.front-came.ensures c.brought.ensures in
    record { room = t.room; same = t.same }
