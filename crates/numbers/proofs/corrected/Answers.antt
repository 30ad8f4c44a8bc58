-- `numbers::corrected` meets its contract, whatever u is: a number beside it is taken only where it is right. Assumes nothing.
use Rattle.std.proofs.Common.{rules}
use Rattle.numbers.proofs.corrected.Goals as goal

pub returns-then-is_nearest : goal.returns-then-is_nearest
returns-then-is_nearest c = c.is_nearest.ensures c.if-is_nearest.true

pub returns-then-is_nearest-2 : goal.returns-then-is_nearest-2
returns-then-is_nearest-2 c = c.is_nearest-2.ensures c.if-is_nearest-2.true
