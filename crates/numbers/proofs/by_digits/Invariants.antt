-- `numbers::by_digits` meets its contract (`Turn.antt` has the loop's turn). Assumes nothing.
use Rattle.std.proofs.Common.{◌-◌, ◌*◌, ◌^◌, ◌∙◌, ⊎_elim, add-one, arith}
use Rattle.numbers.proofs.Roots.{nearest-up, nearest-stay}
use Rattle.numbers.proofs.Turn.{Inv, up, stay, done}
use Rattle.numbers.proofs.by_digits.Given as goal

abbrev pub invariant-loop : goal.invariant-loop
invariant-loop l = Inv l.m l.w l.r l.rem l.counter
