-- `stock_file::stock_from` meets its contract. Assumes nothing.
use mathlib.Core.Path.{ap}
use Rattle.stock.specs.declared.TurnStockSpec.{TurnStockSpec}
use Rattle.stock.specs.Stock.{stock_from}
use Rattle.stock_file.proofs.stock_from.Goals as goal

pub returns : goal.returns
returns c = let a = c.args in
    ap (λ (s : TurnStockSpec). stock_from s a.edition a.rings 0) c.clean_spec.ensures
