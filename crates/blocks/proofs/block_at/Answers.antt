-- `blocks::block_at` meets its contract. Assumes nothing.
use mathlib.Core.Path.{sym}
use native.Mathlib.Omega.{arith}
use borrow.Author.Tests.{le-ltb}
use lib.Ieee.{div, of_bits}
use Rattle.floats.specs.Pick.{pick-false}
use Rattle.blocks.specs.Block.{block_at}
use Rattle.blocks.proofs.Steps.{block-there}
use Rattle.blocks.proofs.block_at.Goals as goal

pub returns-then-j-blocks : goal.returns-then-j-blocks
returns-then-j-blocks c = block-there _ _ _ _ (omega arith) c.clean.ensures c.clean-then-j-blocks.ensures

pub returns : goal.returns
unfolding block_at div of_bits
returns c = sym (pick-false _ _ _ (le-ltb _ _ c.if-j-blocks.false))
