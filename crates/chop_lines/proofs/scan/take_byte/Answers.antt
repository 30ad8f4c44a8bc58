-- `chop_lines::scan::take_byte` meets its contract. Assumes nothing.
use Rattle.std.proofs.Common.{◌*◌, take, ap, ◌∙◌, arith}
use Rattle.chop_lines.specs.Scan.{state, on_line}
use Rattle.chop_lines.proofs.Taking.{byte-stopped, byte-ends, byte-goes, byte-over}
use Rattle.chop_lines.proofs.scan.take_byte.Goals as goal

pub returns-then-scan-ne0 : goal.returns-then-scan-ne0
returns-then-scan-ne0 c = record { len_value = byte-stopped _ _ c.if-scan-ne0.true; len_bound = c.requires.1 }

pub returns-then-byte-eq10 : goal.returns-then-byte-eq10
returns-then-byte-eq10 c = let o = c.on_line in
    let a = c.args in
    let st = state a.before.scan (take (3 * a.before.points) a.numbers.now) in
    record { len_value = byte-ends st a.line.now a.before.len a.byte c.if-scan-ne0.false _ _ _ c.if-byte-eq10.true (o.ensures.numbers_after ∙ ap (on_line st) c.front.ensures) o.ensures.len_value; len_bound = omega (arith, o.ensures.len_value) }

pub returns-then-len : goal.returns-then-len
returns-then-len c = let a = c.args in
    record { len_value = byte-goes (state a.before.scan (take (3 * a.before.points) a.numbers.now)) a.line.now a.before.len a.byte c.if-scan-ne0.false c.if-byte-eq10.false (omega (arith, c.if-len.true)) c.requires.0.line; len_bound = omega (arith, c.if-len.true) }

pub returns : goal.returns
returns c = let a = c.args in
    record { len_value = byte-over (state a.before.scan (take (3 * a.before.points) a.numbers.now)) a.line.now a.before.len a.byte c.if-scan-ne0.false _ c.if-byte-eq10.false (omega (arith, c.if-len.false)) c.requires.0.line c.refuse.ensures; len_bound = omega arith }
