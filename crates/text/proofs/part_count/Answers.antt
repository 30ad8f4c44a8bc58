-- `text::part_count` meets its contract. Assumes nothing.
use Rattle.std.proofs.Common.{arith}
use Rattle.std.proofs.lemmas.Grind.{common_steps}
use Rattle.text.proofs.Parting.{count-parts}
use Rattle.text.proofs.part_count.Goals as goal

pub returns : goal.returns
returns c = grind (arith, common_steps, count-parts)
