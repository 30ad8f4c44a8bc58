-- `stock_file::take_byte` meets its contract. Assumes nothing.
use native.Mathlib.Omega.{arith}
use mathlib.Core.Path.{ap, ◌∙◌}
use Rattle.stock_lines.specs.Reading.{state, on_line}
use Rattle.stock_file.proofs.Held.{taken-stopped, taken-line, taken-held, taken-long}
use borrow.Author.Rules.{rules}
use Rattle.stock_file.proofs.take_byte.Goals as goal

pub returns-then-reading : goal.returns-then-reading
returns-then-reading c = let a = c.args in
    record { same = taken-stopped (state a.reading a.cells.now a.rings.now) a.line.now a.len a.byte c.requires.0 c.requires.1 c.if-reading.true; few = c.requires.0; room = c.requires.1 }

pub returns-then-byte-eq10 : goal.returns-then-byte-eq10
returns-then-byte-eq10 c = let a = c.args in
    let st = state a.reading a.cells.now a.rings.now in
    record {
      same = taken-line st a.line.now a.len a.byte c.requires.0 c.requires.1 _ a.line.now c.if-reading.false c.if-byte-eq10.true (c.take_line-after.ensures ∙ ap (on_line st) c.front.ensures);
      few = omega arith;
      room = c.requires.1;
    }

pub returns-then-len-lt-LONGEST : goal.returns-then-len-lt-LONGEST
returns-then-len-lt-LONGEST c = let a = c.args in
    record {
      same = taken-held (state a.reading a.cells.now a.rings.now) a.line.now a.len a.byte c.requires.0 c.requires.1 _ c.if-reading.false c.if-byte-eq10.false c.if-len-lt-LONGEST.true c.put_byte.ensures;
      few = omega arith;
      room = search rules;
    }

pub returns : goal.returns
returns c = let a = c.args in
    record {
      same = taken-long (state a.reading a.cells.now a.rings.now) a.line.now a.len a.byte c.requires.0 c.requires.1 _ a.line.now c.if-reading.false c.if-byte-eq10.false c.if-len-lt-LONGEST.false c.refuse.ensures;
      few = omega arith;
      room = c.requires.1;
    }
