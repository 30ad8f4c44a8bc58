-- Shapes of the fit of a solid bar's cells, proved equal to `cell_fits` (proofs/Signs); need not be believed. Assumes nothing.
use Rattle.std.specs.Prelude.{◌≡◌, ℕ, Bool, true, false, ◌&&◌}
use Rattle.std.specs.Float.Ieee.{le, lt}
use Rattle.floats.specs.Numbers.{zero64}
use Rattle.stock.specs.declared.TurnStockSpec.{TurnStockSpec}
use Rattle.stock.specs.declared.TurnCell.{TurnCell}

-- the weight of the sign in a pattern
abbrev pub sign_bit : ℕ
sign_bit = 0x8000000000000000

-- the bore is zero
pub record Solid (s : TurnStockSpec) : Type 0 where
  pub clear : le zero64 s.bore_radius_mm ≡ true
  pub none : lt zero64 s.bore_radius_mm ≡ false

-- both pairs ordered and not above the outer radius
unfoldable pub ordered : TurnStockSpec → TurnCell → Bool
ordered s c =
    le c.outer.lower_mm c.outer.upper_mm && le c.outer.upper_mm s.outer_radius_mm
    && le c.inner.lower_mm c.inner.upper_mm && le c.inner.upper_mm s.outer_radius_mm
