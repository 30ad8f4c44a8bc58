-- `stock::bin` meets its contract. Assumes nothing.
use Rattle.std.proofs.Common.{le-ltb, lt-ltb}
use Rattle.refusals.specs.Paper.{papers}
use Rattle.refusals.proofs.Exits.{same_exit}
use Rattle.stock.specs.Bin.{bin_for}
use Rattle.stock.proofs.bin.Goals as goal

pub returns-in_err-n : goal.returns-in_err-n
unfolding bin_for
returns-in_err-n c = search (papers, same_exit _ _ c.from_residual.ensures.1, c.in_err-n.was, ← c.validate.ensures)

pub returns-then-i-n : goal.returns-then-i-n
unfolding bin_for
returns-then-i-n c = search (papers, c.in_ok-n.was, ← c.validate.ensures, lt-ltb _ _ c.if-i-n.true, ← c.bin_of.ensures, ← c.clean_spec.ensures)

pub returns : goal.returns
unfolding bin_for
returns c = search (papers, c.in_ok-n.was, ← c.validate.ensures, le-ltb _ _ c.if-i-n.false)
