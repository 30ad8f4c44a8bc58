-- `stock_lines::count_to` meets its contract. Assumes nothing.
use Rattle.stock_lines.proofs.Readings.{count-more, count-full}
use Rattle.stock_lines.proofs.count_to.Goals as goal

pub returns-then-n-limit : goal.returns-then-n-limit
returns-then-n-limit c = count-more _ _ c.if-n-limit.true

pub returns : goal.returns
returns c = count-full _ _ c.if-n-limit.false
