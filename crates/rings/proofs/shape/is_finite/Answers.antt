-- `rings::shape::is_finite` meets its contract. Assumes nothing.
use Rattle.floats.proofs.FiniteTest.{finite-test}
use Rattle.rings.proofs.shape.is_finite.Goals as goal

pub returns : goal.returns
returns c = finite-test c.args.x
