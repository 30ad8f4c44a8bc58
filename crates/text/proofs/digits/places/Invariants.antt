-- `text::digits::places` meets its contract. Assumes nothing.
use Rattle.std.proofs.Common.{◌≡◌, ◌+◌, ◌-◌}
use Rattle.text.specs.Digits.{more}
use Rattle.text.proofs.digits.places.Given as goal

abbrev pub invariant-loop-k : goal.invariant-loop-k
invariant-loop-k l = (more 19 l.n ≡ l.k + more (19 - l.k) l.rest)
