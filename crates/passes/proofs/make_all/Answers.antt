-- `passes::make_all` meets its contract. Assumes nothing.
use native.Mathlib.Omega.{arith}
use Rattle.passes.proofs.make_all.Goals as goal

pub make_many-requires : goal.make_many-requires
make_many-requires c = (c.requires, omega arith)

pub returns-then-after : goal.returns-then-after
returns-then-after c = c.make_many.ensures

pub returns : goal.returns
returns c = c.make_most.ensures
