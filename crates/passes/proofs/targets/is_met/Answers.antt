-- `passes::targets::is_met` meets its contract. Assumes nothing.
use mathlib.Core.Bool.{◌&&◌}
use lib.Ieee.{le}
use Rattle.passes.proofs.targets.is_met.Goals as goal

pub returns : goal.returns
returns c = λ i. le (c.clean-low.ensures i) c.args.c.outer.lower_mm && le c.args.c.outer.upper_mm (c.clean-high.ensures i)
