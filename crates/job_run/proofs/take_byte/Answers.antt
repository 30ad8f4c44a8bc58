-- `job_run::take_byte` meets its contract. Assumes nothing.
use Rattle.std.proofs.Common.{ap, ◌∙◌, arith}
use Rattle.job_run.specs.Run.{state, on_line}
use Rattle.job_run.proofs.Lines.{byte-stopped, byte-ends, byte-held, byte-over}
use Rattle.job_run.proofs.take_byte.Goals as goal

pub returns-then-run-ne0 : goal.returns-then-run-ne0
returns-then-run-ne0 c = let a = c.args in byte-stopped (state a.run a.cells.now a.rings.now) a.line.now a.len a.byte c.if-run-ne0.true

pub returns-then-byte-eq10 : goal.returns-then-byte-eq10
returns-then-byte-eq10 c = let a = c.args in
    let st = state a.run a.cells.now a.rings.now in
    byte-ends st a.line.now a.len a.byte _ c.put_byte.ensures c.if-run-ne0.false _ c.if-byte-eq10.true (c.on_line-after.ensures ∙ ap (on_line st) c.held.ensures)

pub returns-then-len : goal.returns-then-len
returns-then-len c = let a = c.args in
    byte-held (state a.run a.cells.now a.rings.now) a.line.now a.len a.byte _ c.put_byte-2.ensures c.if-run-ne0.false c.if-byte-eq10.false (omega arith)

pub returns : goal.returns
returns c = let a = c.args in
    byte-over (state a.run a.cells.now a.rings.now) a.line.now a.len a.byte _ c.put_byte-2.ensures c.if-run-ne0.false _ c.if-byte-eq10.false (omega arith) c.refuse.ensures
