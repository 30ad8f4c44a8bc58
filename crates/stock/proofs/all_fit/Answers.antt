-- `stock::all_fit` meets its contract. Assumes nothing.
use Rattle.std.proofs.Common.{rules}
use Rattle.stock.proofs.all_fit.Goals as goal

pub returns-then-s : goal.returns-then-s
returns-then-s c = c.all_fit_tube.ensures

pub all_fit_solid-requires : goal.all_fit_solid-requires
all_fit_solid-requires c = (record { clear = search rules; none = search rules }, search rules)

pub returns : goal.returns
returns c = c.all_fit_solid.ensures
