-- `turning::file_c::turning_read_part` meets its contract. Assumes nothing.
use Rattle.turning.specs.Files.{flat_of}
use Rattle.turning.proofs.Filing.{part-refused, part-taken}
use Rattle.turning.proofs.file_c.turning_read_part.Goals as goal

pub returns-then-reading : goal.returns-then-reading
returns-then-reading c = let a = c.args in
    part-refused (flat_of a.state.now a.bar.now a.cells.now a.rings.now a.line.now) a.bytes.now _ _ c.reading_of-reading.ensures c.if-reading.true c.code_of.ensures

pub returns : goal.returns
returns c = let a = c.args in
    part-taken a.state.now _ a.bar.now _ a.cells.now _ a.rings.now _ a.line.now _ a.bytes.now _ _ _ _ _
    c.reading_of-reading.ensures
    c.if-reading.false
    c.held_in-held.ensures
    c.take_part-taken.ensures.reads
    c.take_part-taken.ensures.holds
    c.take_part-taken.ensures.keeps
    c.keep.ensures
    c.code_of-2.ensures
