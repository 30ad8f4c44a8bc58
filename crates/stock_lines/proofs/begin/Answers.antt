-- `stock_lines::begin` meets its contract. Assumes nothing.
use Rattle.std.proofs.Common.{◌∙◌}
use Rattle.stock_lines.proofs.Readings.{begun-none, begun-is}
use Rattle.stock_lines.proofs.begin.Goals as goal

pub returns-in-None : goal.returns-in-None
returns-in-None c = c.refuse.ensures ∙ begun-none _ _ c.in-None.is

pub returns-in-Some : goal.returns-in-Some
returns-in-Some c = begun-is c.args.reading _ _ _ c.in-Some.is c.wrapping_add_u64.ensures.value
