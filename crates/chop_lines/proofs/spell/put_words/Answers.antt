-- `chop_lines::spell::put_words` meets its contract. Assumes nothing.
use Rattle.std.proofs.Common.{sym, refl, ap, arith}
use Rattle.text.proofs.Sets.{put-wrote, retext}
use Rattle.chop_lines.specs.Spelled.{line_words}
use Rattle.chop_lines.proofs.spell.put_words.Goals as goal

pub returns-in-Outer : goal.returns-in-Outer
returns-in-Outer c = let w = put-wrote 10 refl (omega arith) c.put.ensures in
    record { wrote = retext (ap line_words (sym c.in-Outer.is)) w; within = omega (arith, w.end) }

pub returns-in-Inner : goal.returns-in-Inner
returns-in-Inner c = let w = put-wrote 10 refl (omega arith) c.put-in-Inner.ensures in
    record { wrote = retext (ap line_words (sym c.in-Inner.is)) w; within = omega (arith, w.end) }
