-- `stock_streams::put_line` meets its contract. Assumes nothing.
use mathlib.Core.Path.{sym}
use Rattle.stock_file.specs.Write.{line_for}
use Rattle.stock_streams.proofs.Putting.{over-length, put-told, put-nothing}
use borrow.Author.Rules.{rules}
use Rattle.stock_streams.proofs.put_line.Goals as goal

pub slice_bounds-front-end : goal.slice_bounds-front-end
slice_bounds-front-end g c = sym (over-length c.file_line-spelled.ensures)

pub returns-in-Ok : goal.returns-in-Ok
returns-in-Ok g c = let a = c.args in
    put-told a.stock a.cells.now a.rings.now a.k (search rules) c.file_line-spelled.ensures c.in-Ok.is c.front.ensures c.put.ensures

pub returns-in-Err : goal.returns-in-Err
returns-in-Err g c = let a = c.args in
    put-nothing (line_for a.stock a.cells.now a.rings.now a.k) _ _ c.file_line-spelled.ensures c.in-Err.is
