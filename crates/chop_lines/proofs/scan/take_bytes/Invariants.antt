-- `chop_lines::scan::take_bytes` meets its contract. Assumes nothing.
use Rattle.std.proofs.Common.{◌≡◌, ◌≤◌, drop}
use Rattle.chop_lines.specs.Scan.{in_hand, bytes_to}
use Rattle.chop_lines.proofs.scan.take_bytes.Given as goal

abbrev pub invariant-loop-b : goal.invariant-loop-b
invariant-loop-b l = (l.taken.len ≤ 127) × (bytes_to (in_hand l.initial.taken.scan l.initial.numbers l.initial.taken.points l.initial.line l.initial.taken.len) l.bytes ≡ bytes_to (in_hand l.taken.scan l.numbers l.taken.points l.line l.taken.len) (drop l.b-index l.bytes))
