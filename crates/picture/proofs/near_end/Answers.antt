-- `picture::near_end` meets its contract. Assumes nothing.
use mathlib.Core.Path.{ap}
use Rattle.floats.specs.Numbers.{◌-₆₄◌}
use Rattle.stock.specs.declared.ZRange.{ZRange}
use Rattle.picture.proofs.near_end.Goals as goal

pub returns : goal.returns
returns c = ap (λ (x : ZRange). x.za -₆₄ c.args.spec.z_min_mm) c.bin_of.ensures
