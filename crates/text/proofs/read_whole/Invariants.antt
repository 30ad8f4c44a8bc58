-- `text::read_whole` meets its contract. Assumes nothing.
use Rattle.std.proofs.Common.{◌≡◌, ◌≤◌, drop}
use Rattle.text.specs.Whole.{whole_of}
use Rattle.text.proofs.Wholes.{whole_from}
use Rattle.text.proofs.read_whole.Given as goal

abbrev pub invariant-loop-b : goal.invariant-loop-b
invariant-loop-b l = (l.v ≤ 1000000000) × (whole_of l.s ≡ whole_from l.v (drop l.b-index l.s))
