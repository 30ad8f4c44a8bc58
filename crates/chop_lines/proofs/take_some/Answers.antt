-- `chop_lines::take_some` meets its contract. Assumes nothing.
use Rattle.chop_lines.proofs.take_some.Goals as goal

pub returns : goal.returns
returns g c = let t = c.take_bytes-taken.ensures in
    record { after = record { bytes = c.front.result.now; same = t.len_value }; within = t.len_bound }
