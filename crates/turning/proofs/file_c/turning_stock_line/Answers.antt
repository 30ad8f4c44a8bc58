-- `turning::file_c::turning_stock_line` meets its contract. Assumes nothing.
use mathlib.Core.Path.{ap, ◌∙◌}
use Rattle.stock.specs.declared.TurnStockSpec.{TurnStockSpec}
use Rattle.stock.specs.Stock.{stock_from}
use Rattle.stock_file.specs.Write.{line_for}
use Rattle.turning.proofs.Filing.{gives-file-line, same-file-line}
use Rattle.turning.proofs.file_c.turning_stock_line.Goals as goal

pub returns : goal.returns
returns c = let a = c.args in
    let same = c.stock_of-stock.ensures ∙ ap (λ (s : TurnStockSpec). stock_from s a.edition a.rings_count 0) c.spec_of-spec.ensures in
    gives-file-line _ _ _ _ _ _ _ c.give.ensures (same-file-line _ _ (λ x. line_for x a.cells.now a.rings.now a.k) _ _ _ same c.file_line-answer.ensures)
