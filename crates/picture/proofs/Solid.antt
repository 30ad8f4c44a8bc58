-- What is drawn solid lies within what may remain, so that what is seen hatched under it is what may remain and is not certain. Assumes nothing.
use lib.Dec.{T}
use lib.Ieee.{Float, lt, le}
use Rattle.stock.specs.declared.TurnCell.{TurnCell}
use Rattle.floats.proofs.Bounding.{lt-le-chain, le-lt-chain}
use Rattle.queries.specs.Material.{sure_of, most_of}

-- a radius r in the solid band of a cell whose bounds are in order
pub solid-within : (c : TurnCell) (r : Float) → T (le c.inner.lower_mm c.inner.upper_mm) → T (le c.outer.lower_mm c.outer.upper_mm)
    → T (lt (sure_of c).bore r) → T (lt r (sure_of c).outer) → T (lt (most_of c).bore r) × T (lt r (most_of c).outer)
solid-within c r a b u v = (le-lt-chain _ _ r a u, lt-le-chain r _ _ v b)
