-- `job_words::number::over_zero` meets its contract. Assumes nothing.
use Rattle.std.proofs.Common.{ap}
use lib.Ieee.{Float, binary64, div, of_bits}
use Rattle.job_words.proofs.number.over_zero.Goals as goal

pub returns : goal.returns
returns c = ap (λ (x : Float). div binary64 x (of_bits binary64 4652007308841189376)) c.nearest_u64_to_f64.ensures
