-- `passes::make_most` meets its contract. Assumes nothing.
use native.Mathlib.Omega.{arith}
use Rattle.passes.proofs.make_most.Goals as goal

pub make_each-requires : goal.make_each-requires
make_each-requires c = let p = c.requires in
    (p, omega arith)

pub returns : goal.returns
returns c = c.make_each.ensures
