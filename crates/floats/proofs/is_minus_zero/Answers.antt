-- `floats::is_minus_zero` meets its contract (`Cleared.antt`). Assumes nothing.
use lib.Ieee.{Float, binary64, fits}
use Rattle.std.proofs.Common.{◌≡◌, true, T, sym, subst}
use Rattle.floats.proofs.Cleared.{zero_number, zero_bits, no_zero}
use Rattle.floats.proofs.is_minus_zero.Goals as goal

-- what owning an `f64` tells: the format holds it
held : (x : Float) → fits binary64 x ≡ true → T (fits binary64 x)
held x e = subst T (sym e) tt

pub float_to_bits-result : goal.float_to_bits-result
float_to_bits-result c = zero_number c.args.x c.if-x.true

pub returns-then-x : goal.returns-then-x
returns-then-x c = zero_bits c.args.x (held _ c.well_formed.0.1) c.if-x.true

pub returns : goal.returns
returns c = no_zero c.args.x (held _ c.well_formed.0.1) c.if-x.false
