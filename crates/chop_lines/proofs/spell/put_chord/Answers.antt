-- `chop_lines::spell::put_chord` meets its contract. Assumes nothing.
use Rattle.chop_lines.specs.Spelled.{chord_text}
use Rattle.chop_lines.proofs.Putting.{puts-more}
use Rattle.chop_lines.proofs.spell.put_chord.Goals as goal

pub returns : goal.returns
unfolding chord_text
returns g c = puts-more c.put_front-next.ensures c.put_ends.ensures
