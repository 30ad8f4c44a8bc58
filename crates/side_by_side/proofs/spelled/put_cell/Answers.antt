-- `side_by_side::spelled::put_cell` meets its contract. Assumes nothing.
use native.Mathlib.Omega.{arith}
use mathlib.Core.Path.{sym}
use Rattle.text.proofs.Sets.{room}
use Rattle.side_by_side.proofs.Texts.{cell-short, line-put, line-length}
use borrow.Author.Rules.{rules}
use Rattle.side_by_side.proofs.spelled.put_cell.Goals as goal

pub slice_bounds-front-end : goal.slice_bounds-front-end
slice_bounds-front-end c = sym (room c.kept_cell_line-n.ensures.wrote)

pub put_bytes-requires : goal.put_bytes-requires
put_bytes-requires c = let w = c.kept_cell_line-n.ensures in
    let l = line-length (search rules) w c.front.ensures in
    omega (arith, l, cell-short w)

pub returns : goal.returns
returns c = line-put (search rules) c.kept_cell_line-n.ensures c.front.ensures c.put_bytes.ensures
