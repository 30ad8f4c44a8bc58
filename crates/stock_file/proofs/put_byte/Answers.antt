-- `stock_file::put_byte` meets its contract. Assumes nothing.
use native.Mathlib.Omega.{arith}
use mathlib.Core.Path.{sym}
use lib.Seq.{set_out}
use Rattle.stock_file.proofs.put_byte.Goals as goal

pub returns-else-at-line : goal.returns-else-at-line
returns-else-at-line c = sym (set_out _ _ _ (omega arith))
