-- `chop_lines::number::in_millionths` meets its contract. Assumes nothing.
use Rattle.std.proofs.Common.{ap}
use lib.Ieee.{Float, binary64, div, of_bits}
use Rattle.chop_lines.proofs.number.in_millionths.Goals as goal

pub returns : goal.returns
returns c = ap (λ (x : Float). div binary64 x (of_bits binary64 0x412E848000000000)) c.nearest_u64_to_f64.ensures
