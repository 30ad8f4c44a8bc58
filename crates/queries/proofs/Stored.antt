-- What the volume is taken of: rings that share no point. Assumes nothing.
use mathlib.Core.Path.{◌≡◌}
use mathlib.Core.Bool.{true}
use mathlib.Core.List.{List}
use Prim.Native.Nat.{ℕ, ◌*◌, ◌≤◌}
use native.Mathlib.Omega.{arith}
use lib.ListN.{length}
use lib.Ieee.{Float}
use Rattle.rings.specs.declared.Ring.{Ring}
use Rattle.rings.specs.Points.{Disjoint}
use Rattle.rings.specs.Store.{rings_of, count_fits}
use Rattle.rings.proofs.Removing.{fits-within}
use Rattle.rings.proofs.Taken.{rings-pass}
use Rattle.rings.proofs.Fitting.{store-disjoint}

-- every point is in one of the rings at most, so that none of it is taken from the volume twice
pub taken-once : (e : Ring) (xs : List Float) (n : ℕ) → count_fits e xs n ≡ true → Disjoint (rings_of n xs)
taken-once e xs n f = store-disjoint e (rings_of n xs) (rings-pass e xs n f)

-- the lent numbers hold so many rings
pub rings-held : (e : Ring) (xs : List Float) (n : ℕ) → count_fits e xs n ≡ true → 4 * n ≤ length xs
rings-held e xs n f = let h = fits-within e xs n f in omega arith
