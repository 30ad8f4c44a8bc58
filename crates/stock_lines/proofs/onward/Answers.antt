-- `stock_lines::onward` meets its contract. Assumes nothing.
use Rattle.stock_lines.proofs.Readings.{onward-is}
use Rattle.stock_lines.proofs.onward.Goals as goal

pub returns : goal.returns
returns c = let a = c.args in onward-is a.reading a.stage a.cells a.rings _ c.wrapping_add_u64.ensures.value
