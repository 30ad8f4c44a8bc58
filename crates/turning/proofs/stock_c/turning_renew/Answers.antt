-- `turning::stock_c::turning_renew` meets its contract. Assumes nothing.
use Rattle.turning.proofs.Blocks.{gives-blocks, same_blocks}
use Rattle.turning.proofs.stock_c.turning_renew.Goals as goal

pub returns : goal.returns
returns c = same_blocks _ _ _ _ _ _ c.spec_of-spec.ensures (gives-blocks _ _ _ _ _ _ c.number_in.ensures c.renew.ensures)
