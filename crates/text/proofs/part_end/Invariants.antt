-- `text::part_end` meets its contract. Assumes nothing.
use Rattle.std.proofs.Common.{◌≡◌, ◌+◌, length, drop}
use Rattle.text.proofs.Parting.{first}
use Rattle.text.proofs.part_end.Given as goal

abbrev pub invariant-loop-e : goal.invariant-loop-e
invariant-loop-e l = (l.a + length (first l.p (drop l.a l.s)) ≡ l.e + length (first l.p (drop l.e l.s)))
