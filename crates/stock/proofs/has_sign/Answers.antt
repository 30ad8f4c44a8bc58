-- `stock::has_sign` meets its contract. Assumes nothing.
use Rattle.std.proofs.Common.{T, sym, subst, rules}
use Rattle.floats.proofs.Signs.{clear-bit, clear-number}
use Rattle.stock.proofs.has_sign.Goals as goal

pub float_to_bits-result : goal.float_to_bits-result
float_to_bits-result c = clear-number c.args.x (search rules)

pub returns : goal.returns
returns c = clear-bit c.args.x (subst T (sym c.well_formed.0.1) tt) (search rules)
