-- `chop_lines::scan::on_line` meets its contract. Assumes nothing.
use Rattle.std.proofs.Common.{◌*◌, take, refl}
use Rattle.chop_lines.specs.Scan.{state}
use Rattle.chop_lines.proofs.Reading.{line_first, line-point, line-twice, line-bad}
use Rattle.chop_lines.proofs.scan.on_line.Goals as goal

pub returns-then-scan-eq0 : goal.returns-then-scan-eq0
returns-then-scan-eq0 c = let a = c.args in
    record { numbers_after = line_first (state a.scan (take (3 * a.points) a.numbers.now)) a.line.now c.read_words-words.ensures c.if-scan-eq0.true c.first_line.ensures refl; len_value = refl }

pub returns-in-Corner : goal.returns-in-Corner
returns-in-Corner c = let a = c.args in
    record { numbers_after = line-point (state a.scan (take (3 * a.points) a.numbers.now)) a.line.now c.read_words-words.ensures c.if-scan-eq0.false c.in-Corner.is c.go_on.ensures c.keep-n.ensures; len_value = refl }

pub returns-in-Head : goal.returns-in-Head
returns-in-Head c = let a = c.args in
    record { numbers_after = line-twice (state a.scan (take (3 * a.points) a.numbers.now)) a.line.now c.read_words-words.ensures c.if-scan-eq0.false c.in-Head.is c.refuse.ensures refl; len_value = refl }

pub returns-in-Bad : goal.returns-in-Bad
returns-in-Bad c = let a = c.args in
    record { numbers_after = line-bad (state a.scan (take (3 * a.points) a.numbers.now)) a.line.now c.read_words-words.ensures c.if-scan-eq0.false c.in-Bad.is c.refuse-in-Bad.ensures refl; len_value = refl }
