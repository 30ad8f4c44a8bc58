-- A volume is never -0.0: a sum and a difference are not where the left operand is not, and the first sum is +0.0. Assumes nothing.
use mathlib.Core.Bool.{Bool, true, false, not}
use mathlib.Core.List.{List}
use Prim.Native.Nat.{ℕ, zero, suc}
use lib.Dec.{T}
use lib.Ieee.{Float, nan, inf, fin, binary64, fits, is_nan, add, sub, neg}
use lib.Ieee.Fits.{neg-fits, add-fits, mul-fits}
use Rattle.floats.specs.Pick.{pick}
use Rattle.floats.specs.Numbers.{◌+₆₄◌, ◌-₆₄◌, minus_zero}
use Rattle.floats.proofs.Lattice.{greatest-keeps}
use Rattle.floats.proofs.Cleared.{plain-zero64}
use Rattle.floats.proofs.Zeros.{add-plain}
use Rattle.stock.specs.declared.TurnStockSpec.{TurnStockSpec}
use Rattle.stock.specs.declared.TurnCell.{TurnCell}
use Rattle.stock.specs.declared.ZRange.{ZRange}
use Rattle.rings.specs.declared.Ring.{Ring}
use Rattle.queries.specs.declared.Band.{Band}
use Rattle.queries.specs.Volume.{tube_of, held_in, less_band, less_in, sum_of, less_ring, less_rings, remains}

-- a value of f64 other than -0.0
abbrev Unsigned : Float → Type 0
Unsigned x = T (fits binary64 x) × T (not (minus_zero x))

add-unsigned : (x y : Float) → Unsigned x → T (fits binary64 y) → Unsigned (x +₆₄ y)
unfolding add minus_zero is_nan
add-unsigned nan y u h = (add-fits binary64 nan y, tt)
add-unsigned (inf s) nan u h = (add-fits binary64 (inf s) nan, tt)
add-unsigned (inf true) (inf true) u h = (add-fits binary64 (inf true) (inf true), tt)
add-unsigned (inf true) (inf false) u h = (add-fits binary64 (inf true) (inf false), tt)
add-unsigned (inf false) (inf true) u h = (add-fits binary64 (inf false) (inf true), tt)
add-unsigned (inf false) (inf false) u h = (add-fits binary64 (inf false) (inf false), tt)
add-unsigned (inf s) (fin t n d) u h = (add-fits binary64 (inf s) (fin t n d), tt)
add-unsigned (fin s m e) nan u h = (add-fits binary64 (fin s m e) nan, tt)
add-unsigned (fin s m e) (inf t) u h = (add-fits binary64 (fin s m e) (inf t), tt)
add-unsigned (fin s m e) (fin t n d) u h =
    let p = add-plain (record { held = u.0; number = tt; unsigned = u.1 }) (record { held = u.0; finite = tt }) (record { held = h; finite = tt }) in
    (p.held, p.unsigned)

sub-unsigned : (x y : Float) → Unsigned x → T (fits binary64 y) → Unsigned (x -₆₄ y)
unfolding sub
sub-unsigned x y u h = add-unsigned x (neg y) u (neg-fits binary64 y h)

pick-keeps : (P : Float → Type 0) (t : Bool) (x y : Float) → P x → P y → P (pick t x y)
unfolding pick
pick-keeps P true x y p q = p
pick-keeps P false x y p q = q

tube-fits : (b : Band) (h : Float) → T (fits binary64 (tube_of b h))
unfolding tube_of
tube-fits b h = mul-fits binary64 _ _

held_fits : (b : Band) (z : ZRange) → T (fits binary64 (held_in b z))
unfolding held_in
held_fits b z = tube-fits _ _

less-unsigned : (b : Band) (z : ZRange) (q : Ring) (v : Float) → Unsigned v → Unsigned (less_in b z q v)
unfolding less_in less_band
less-unsigned b z q v u = pick-keeps Unsigned _ _ _ u (pick-keeps Unsigned _ _ _ (sub-unsigned v _ u (tube-fits _ _)) u)

module _ (of : TurnCell → Band) (s : TurnStockSpec) (cs : List Float) where
  sum-unsigned : (n : ℕ) → Unsigned (sum_of of s cs n)
  unfolding sum_of
  sum-unsigned zero = (plain-zero64.held, plain-zero64.unsigned)
  sum-unsigned (suc i) = add-unsigned _ _ (sum-unsigned i) (held_fits _ _)

  ring-unsigned : (q : Ring) (v : Float) → Unsigned v → (n : ℕ) → Unsigned (less_ring of s cs q v n)
  unfolding less_ring
  ring-unsigned q v u zero = u
  ring-unsigned q v u (suc i) = less-unsigned _ _ q _ (ring-unsigned q v u i)

  rings-unsigned : (n : ℕ) (xs : List Float) (v : Float) → Unsigned v → (k : ℕ) → Unsigned (less_rings of s cs n xs v k)
  unfolding less_rings
  rings-unsigned n xs v u zero = u
  rings-unsigned n xs v u (suc k) = ring-unsigned _ _ (rings-unsigned n xs v u k) n

  -- neither bound of the volume is -0.0, whatever the numbers
  pub remains-unsigned : (n : ℕ) (xs : List Float) (k : ℕ) → T (not (minus_zero (remains of s cs n xs k)))
  unfolding remains
  remains-unsigned n xs k = (greatest-keeps Unsigned (rings-unsigned n xs _ (sum-unsigned n) k) (plain-zero64.held, plain-zero64.unsigned)).1
