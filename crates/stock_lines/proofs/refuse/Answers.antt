-- `stock_lines::refuse` meets its contract. Assumes nothing.
use Rattle.stock_lines.proofs.Readings.{refused-is}
use Rattle.stock_lines.proofs.refuse.Goals as goal

pub returns : goal.returns
returns c = refused-is c.args.reading _ c.wrapping_add_u64.ensures.value
