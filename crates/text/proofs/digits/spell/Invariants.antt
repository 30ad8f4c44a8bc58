-- `text::digits::spell` meets its contract. Assumes nothing.
use Rattle.std.proofs.Common.{◌≡◌}
use lib.Seq.{sets}
use Rattle.text.specs.Digits.{digits}
use Rattle.text.proofs.digits.spell.Given as goal

abbrev pub invariant-loop-i : goal.invariant-loop-i
invariant-loop-i l = sets l.out l.at (digits l.base l.i l.rest) ≡ sets l.initial.out l.at (digits l.base l.k l.n)
