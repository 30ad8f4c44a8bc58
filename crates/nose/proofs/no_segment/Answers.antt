-- `nose::no_segment` meets its contract: 0 / 0 is no number. Assumes nothing.
use mathlib.Core.Path.{refl}
use lib.Ieee.{div, of_bits}
use Rattle.nose.proofs.no_segment.Goals as goal

pub returns : goal.returns
unfolding div of_bits
returns c = refl
