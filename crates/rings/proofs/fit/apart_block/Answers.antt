-- `rings::fit::apart_block` meets its contract. Assumes nothing.
use native.Mathlib.Omega.{arith}
use mathlib.Core.Path.{◌∙◌, sym}
use Rattle.rings.proofs.Boxes.{block_apart}
use Rattle.rings.proofs.fit.apart_block.Goals as goal

pub returns-then-is_apart : goal.returns-then-is_apart
returns-then-is_apart c = λ f i. block_apart c.args.rings.now c.args.from c.args.to c.args.b c.args.k c.args.before c.requires.0 (sym c.is_apart.ensures ∙ c.if-is_apart.true) f i

pub apart_on-requires : goal.apart_on-requires
apart_on-requires c = (omega arith, omega arith)

pub returns : goal.returns
returns c = λ f i. c.apart_on.ensures f
