-- `chop_lines::read_profile` meets its contract. Assumes nothing.
use Rattle.std.proofs.Common.{◌≤◌, []}
use Rattle.lines.specs.Hands.{hand}
use Rattle.chop_lines.specs.Reads.{After}
use Rattle.chop_lines.specs.Scan.{fresh, in_hand}
use Rattle.chop_lines.proofs.read_profile.Given as goal

abbrev pub invariant-loop : goal.invariant-loop
invariant-loop g l = (l.taken.len ≤ 127) × After (hand fresh []) (in_hand l.taken.scan l.numbers l.taken.points l.line l.taken.len)
