-- `stock_lines::form::put_end` meets its contract. Assumes nothing.
use Rattle.std.proofs.Common.{arith}
use Rattle.stock_lines.proofs.Steps.{end_short, then-put}
use Rattle.stock_lines.proofs.form.put_end.Goals as goal

pub returns : goal.returns
returns c = then-put _ _ (omega (arith, end_short c.args.count)) c.put-e.ensures c.put_decimal.ensures
