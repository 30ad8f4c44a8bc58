-- `numbers::nearest_root` meets its contract, whatever the floats make of p: what passed a test is a number, and a guess is taken only where it is right. Assumes nothing.
use Rattle.std.proofs.Common.{rules}
use Rattle.numbers.proofs.Pack.{no_nan}
use Rattle.numbers.proofs.Settle.{below-number}
use Rattle.numbers.proofs.nearest_root.Goals as goal

pub float_from_bits-p : goal.float_from_bits-p
float_from_bits-p c = no_nan c.args.p c.requires.1

pub float_to_bits-u : goal.float_to_bits-u
float_to_bits-u c = below-number _ _ c.if-s.true

pub returns-then-is_nearest : goal.returns-then-is_nearest
returns-then-is_nearest c = c.is_nearest.ensures c.if-is_nearest.true
