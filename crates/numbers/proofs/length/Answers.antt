-- `numbers::length` meets its contract. Assumes nothing.
use Rattle.std.proofs.Common.{rules}
use Rattle.floats.specs.Pick.{picks}
use Rattle.numbers.specs.Length.{tiny_parts, plain_length, length_of}
use Rattle.numbers.proofs.length.Goals as goal

pub returns-then-abs : goal.returns-then-abs
unfolding length_of tiny_parts
returns-then-abs c = search (picks, ← c.tiny_length.ensures, ← c.abs-2.ensures, ← c.abs.ensures)

pub returns : goal.returns
unfolding length_of tiny_parts plain_length
returns c = search (picks, ← c.root.ensures, ← c.abs-2.ensures, ← c.abs.ensures)
