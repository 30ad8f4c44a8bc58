-- `rings::lent::apart_from` meets its contract. Assumes nothing.
use native.Mathlib.Omega.{arith}
use mathlib.Core.Path.{refl}
use Rattle.rings.specs.Store.{rings_of, apart_all}
use Rattle.rings.proofs.lent.apart_from.Goals as goal

pub apart_on-requires : goal.apart_on-requires
apart_on-requires c = (omega arith, omega arith)

pub returns : goal.returns
unfolding rings_of apart_all
returns c = c.apart_on.ensures refl
