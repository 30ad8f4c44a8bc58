-- `passes::make_many` meets its contract. Assumes nothing.
use native.Mathlib.Omega.{arith}
use Rattle.passes.proofs.make_many.Goals as goal

pub make_each-requires : goal.make_each-requires
make_each-requires c = let p = c.requires in
    (p.0, omega arith)

pub returns : goal.returns
returns c = c.make_each.ensures
