-- `stock_streams::gather_stock` meets its contract. Assumes nothing.
use mathlib.Core.Path.{refl, sym, ap, ◌∙◌}
use Rattle.refusals.specs.Number.{paper_of}
use Rattle.stock_streams.proofs.Putting.{stock-put, stock-refused}
use Rattle.stock_streams.proofs.gather_stock.Goals as goal

pub returns-in-Ok : goal.returns-in-Ok
returns-in-Ok g c = let a = c.args in
    stock-put a.stock a.cells.now a.rings.now _ _ _ (sym c.line_count-lines.ensures ∙ ap paper_of c.in-Ok.is) c.gather_lines.ensures

pub returns-in-Err : goal.returns-in-Err
returns-in-Err g c = stock-refused _ _ _ _ _ refl
