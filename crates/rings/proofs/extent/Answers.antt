-- `rings::extent` meets its contract. Assumes nothing.
use mathlib.Core.Path.{ap}
use Rattle.stock.specs.declared.TurnStockSpec.{TurnStockSpec}
use Rattle.rings.specs.Store.{bar_ring}
use Rattle.rings.proofs.extent.Goals as goal

pub returns : goal.returns
returns c = ap (λ (s : TurnStockSpec). bar_ring s) c.clean_spec-s.ensures
