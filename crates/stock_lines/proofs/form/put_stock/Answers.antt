-- `stock_lines::form::put_stock` meets its contract. Assumes nothing.
use Rattle.std.proofs.Common.{arith}
use Rattle.stock_lines.proofs.Steps.{stock-long, then-put}
use Rattle.stock_lines.proofs.form.put_stock.Goals as goal

pub returns : goal.returns
returns c = then-put _ _ (omega (arith, stock-long c.args.form)) c.put-e.ensures c.put_digits.ensures
