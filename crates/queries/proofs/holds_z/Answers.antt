-- `queries::holds_z` meets its contract. Assumes nothing.
use mathlib.Core.Path.{ap}
use mathlib.Core.Bool.{◌&&◌}
use lib.Ieee.{le}
use Rattle.stock.specs.declared.ZRange.{ZRange}
use Rattle.queries.proofs.holds_z.Goals as goal

pub returns : goal.returns
returns c = let z = c.args.z in
    ap (λ (b : ZRange). le b.za z && le z b.zb) c.bin_of-bin.ensures
