-- `test_side_by_side::many::write_chunk` meets its contract. Assumes nothing.
use Rattle.std.proofs.Common.{sym}
use Rattle.text.proofs.Sets.{room}
use Rattle.test_side_by_side.proofs.many.write_chunk.Goals as goal

pub slice_bounds-front-end : goal.slice_bounds-front-end
slice_bounds-front-end c = sym (room c.chunk-n.ensures)
