-- `stock_file::take_run` meets its contract. Assumes nothing.
use native.Mathlib.Omega.{arith}
use mathlib.Core.Path.{◌∙◌}
use lib.ListN.{length}
use Rattle.stock_lines.specs.Reading.{state}
use Rattle.stock_file.proofs.Held.{bytes-step, run-stopped}
use Rattle.stock_file.proofs.take_run.Goals as goal

pub returns-then-reading : goal.returns-then-reading
returns-then-reading c = let a = c.args in
    record {
      same = run-stopped (state a.reading a.cells.now a.rings.now) a.line.now a.bytes.now a.len a.from (length a.bytes.now) c.if-reading.true;
      few = c.requires.0;
      room = c.requires.1;
      on = c.requires.2;
      reach = omega arith;
    }

pub returns-then-bytes-at : goal.returns-then-bytes-at
returns-then-bytes-at c = let h = c.hold_bytes-m.ensures in
    let a = c.args in
    record {
      same = h.same (state a.reading a.cells.now a.rings.now) c.if-reading.false;
      few = h.few;
      room = h.room;
      on = omega (arith, c.requires.2, c.if-bytes-at.true);
      reach = h.reach;
    }

pub overflow_add-result : goal.overflow_add-result
overflow_add-result c = omega (arith, c.if-bytes-at.false)

pub returns : goal.returns
returns c = let t = c.take_byte-t.ensures in
    let h = c.hold_bytes-m.ensures in
    let a = c.args in
    record {
      same = h.same (state a.reading a.cells.now a.rings.now) c.if-reading.false ∙ bytes-step a.bytes.now _ _ _ c.if-bytes-at.false t.same;
      few = t.few;
      room = t.room;
      on = omega arith;
      reach = omega (arith, c.if-bytes-at.false);
    }
