-- `side_streams::first_cells` meets its contract. Assumes nothing.
use Prim.Native.Nat.{◌*◌}
use native.Mathlib.Omega.{arith}
use mathlib.Core.Path.{sym}
use lib.Seq.{length-take-le, take_all}
use Rattle.side_streams.proofs.first_cells.Goals as goal

pub returns-then-cells-n : goal.returns-then-cells-n
returns-then-cells-n c = sym (take_all (4 * c.args.n) c.args.cells.now (omega arith))

pub slice_bounds-result-end : goal.slice_bounds-result-end
slice_bounds-result-end c = sym (length-take-le _ _ (omega arith))
