-- `chop_lines::number::micrometres_of` meets its contract. Assumes nothing.
use Rattle.std.proofs.Common.{ap, ◌∙◌}
use lib.Ieee.{Float}
use Rattle.floats.specs.Numbers.{◌+₆₄◌, ◌*₆₄◌}
use Rattle.numbers.specs.Whole.{whole_part}
use Rattle.chop_lines.specs.Spelled.{thousand, half}
use Rattle.chop_lines.proofs.number.micrometres_of.Goals as goal

pub returns : goal.returns
returns c = c.whole_part.ensures ∙ ap (λ (y : Float). whole_part (y *₆₄ thousand +₆₄ half)) c.abs.ensures
