-- `stock::number_at` meets its contract. Assumes nothing.
use Rattle.std.proofs.Common.{sym}
use lib.ListN.{get_or-eq_default}
use lib.Ieee.{nan, of_bits}
use Rattle.stock.proofs.number_at.Goals as goal

pub returns-else-k-list : goal.returns-else-k-list
unfolding of_bits
returns-else-k-list c = sym (get_or-eq_default c.args.list.now nan c.if-k-list.false)
