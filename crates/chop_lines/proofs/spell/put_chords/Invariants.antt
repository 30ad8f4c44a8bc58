-- `chop_lines::spell::put_chords` meets its contract. Assumes nothing.
use Rattle.chop_lines.specs.Spelled.{chord_texts}
use Rattle.chop_lines.specs.Chopped.{AllPut}
use Rattle.chop_lines.proofs.spell.put_chords.Given as goal

abbrev pub invariant-loop-k : goal.invariant-loop-k
invariant-loop-k g l = AllPut (chord_texts l.side l.rn l.chords l.k) l.out l.gathered
