-- `passes::lists::number_of` meets its contract. Assumes nothing.
use mathlib.Core.Path.{sym}
use lib.ListN.{get_or-eq_default}
use lib.Ieee.{nan, div, of_bits}
use Rattle.passes.proofs.lists.number_of.Goals as goal

pub returns : goal.returns
unfolding div of_bits
returns c = sym (get_or-eq_default c.args.numbers.now nan c.if-at-numbers.false)
