-- `chop_lines::put_text` meets its contract. Assumes nothing.
use Rattle.std.proofs.Common.{arith}
use Rattle.chop_lines.specs.Scan.{state}
use Rattle.chop_lines.proofs.Putting.{all-put, text-scan, text-refused, text-chords, chords-fit}
use Rattle.chop_lines.proofs.put_text.Goals as goal

pub returns-then-scan-ne0 : goal.returns-then-scan-ne0
returns-then-scan-ne0 g c = let a = c.args in
    all-put (text-scan (state a.scan a.points.now) c.if-scan-ne0.true) c.put_refused.ensures

pub put_chords-requires : goal.put_chords-requires
put_chords-requires g c = let a = c.args in
    chords-fit (state a.scan a.points.now) _ _ c.if-scan-ne0.false (omega arith) c.segments.ensures _ c.in-Ok.is (omega arith)

pub returns-in-Err : goal.returns-in-Err
returns-in-Err g c = let a = c.args in
    all-put (text-refused (state a.scan a.points.now) _ _ c.if-scan-ne0.false (omega arith) c.segments.ensures _ _ c.in-Err.is c.number-number.ensures) c.put_refused-in-Err.ensures

pub returns-in-Ok : goal.returns-in-Ok
returns-in-Ok g c = let a = c.args in
    all-put (text-chords (state a.scan a.points.now) _ _ c.if-scan-ne0.false (omega arith) c.segments.ensures _ c.in-Ok.is) c.put_chords.ensures
