-- `turning::file_c::turning_read_end` meets its contract. Assumes nothing.
use Rattle.turning.proofs.Filing.{gives-kept, told_is}
use Rattle.turning.proofs.file_c.turning_read_end.Goals as goal

pub returns : goal.returns
returns c = let a = c.args in
    gives-kept _ _ _ _ _ _ _ _ _ _ _
    (told_is a.state.now a.bar.now a.max_cells a.cells.now a.rings.now _ _ _ c.reading_of-reading.ensures c.held_in-held.ensures c.finish-answer.ensures)
    c.give_kept.ensures
