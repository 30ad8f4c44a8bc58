-- `numbers::full_shift` meets its contract (`Shift.antt`). Assumes nothing.
use Rattle.std.proofs.Common.{arith}
use lib.Count.{count_leading_zeros, leading_le}
use Rattle.numbers.proofs.Shift.{full}
use Rattle.numbers.proofs.full_shift.Goals as goal

pub overflow_sub-result : goal.overflow_sub-result
overflow_sub-result c = (full c.args.m c.requires.0 c.requires.1).0

pub overflow_cast-result : goal.overflow_cast-result
overflow_cast-result c = omega (arith, leading_le 64 c.args.m)

pub returns : goal.returns
returns c = (full c.args.m c.requires.0 c.requires.1).1
