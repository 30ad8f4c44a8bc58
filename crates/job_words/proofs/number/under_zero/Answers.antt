-- `job_words::number::under_zero` meets its contract. Assumes nothing.
use Rattle.std.proofs.Common.{ap, ◌∙◌}
use lib.Ieee.{Float, binary64, div, of_bits, of_int}
use Rattle.job_words.proofs.Signs.{minus-fits, minus_is}
use Rattle.job_words.proofs.number.under_zero.Goals as goal

pub overflow_sub-n : goal.overflow_sub-n
overflow_sub-n c = minus-fits _ c.requires

pub returns : goal.returns
returns c = ap (λ (x : Float). div binary64 x (of_bits binary64 4652007308841189376)) (c.nearest_i64_to_f64.ensures ∙ ap (of_int binary64) (minus_is _ c.requires))
