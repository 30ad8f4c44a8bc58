-- The contour of a stretch, step by step: along the outer radii from the first bin on, and back along the bores from the last. Assumes nothing.
use Rattle.std.specs.Prelude.{ℕ, ◌+◌, ◌-◌, List, [], ◌∷◌, ◌++◌, ltb, eqb, Float}
use Rattle.refusals.specs.Lent.{Lent}
use Rattle.floats.specs.Pick.{pick}
use Rattle.floats.specs.Numbers.{◌-₆₄◌}
use Rattle.stock.specs.declared.TurnSide.{TurnSide}
use Rattle.stock.specs.declared.TurnSide.TheVariants.{Outer, Inner}
use Rattle.stock.specs.declared.TurnStockSpec.{TurnStockSpec}
use Rattle.stock.specs.Bin.{bin_of}
use Rattle.stock.specs.Cell.{cell_at}
use Rattle.text.specs.Wrote.{WritesLine}
use Rattle.picture.specs.declared.Look.{Look}
use Rattle.picture.specs.declared.Stretch.{Stretch}
use Rattle.picture.specs.declared.Step.{Step}
use Rattle.picture.specs.Drawn.{band_of}
use Rattle.picture.specs.Decimals.{length_text}
use Rattle.picture.specs.Runs.{RunEnds}

-- how many bins
abbrev pub long_of : Stretch → ℕ
long_of s = s.to - s.from

-- bin k of a stretch on a side; behind the last, the first
unfoldable pub bin_on : TurnSide → Stretch → ℕ → ℕ
bin_on Outer s k = pick (ltb k (long_of s)) (s.from + k) s.from
bin_on Inner s k = pick (ltb k (long_of s)) (s.to - 1 - k) s.from

-- its radius on that side
unfoldable pub edge_of : Look → TurnSide → List Float → List Float → Stretch → ℕ → Float
edge_of look Outer cs ds s k = (band_of look (cell_at cs (bin_on Outer s k)) (cell_at ds (bin_on Outer s k))).outer
edge_of look Inner cs ds s k = (band_of look (cell_at cs (bin_on Inner s k)) (cell_at ds (bin_on Inner s k))).bore

-- where it ends on the way, told from z_min on
unfoldable pub far_end : TurnSide → TurnStockSpec → Stretch → ℕ → Float
far_end Outer spec s k = (bin_of spec (bin_on Outer s k)).zb -₆₄ spec.z_min_mm
far_end Inner spec s k = (bin_of spec (bin_on Inner s k)).za -₆₄ spec.z_min_mm

-- where the first begins
abbrev pub near_end : TurnStockSpec → Stretch → Float
near_end spec s = (bin_of spec s.from).za -₆₄ spec.z_min_mm

-- `V` and a radius
abbrev pub radius_text : Float → List ℕ
radius_text r = (86 ∷ []) ++ length_text r

-- `M`, a place along z and a radius
abbrev pub start_text : Float → Float → List ℕ
start_text x r = (77 ∷ []) ++ (length_text x ++ ((32 ∷ []) ++ length_text r))

-- the first step of all begins at a place, every other turns to its radius
unfoldable pub turn_text : TurnSide → TurnStockSpec → Stretch → ℕ → Float → List ℕ
turn_text Outer spec s k r = pick (eqb k 0) (start_text (near_end spec s) r) (radius_text r)
turn_text Inner spec s k r = radius_text r

-- `H` and a place
abbrev pub along_text : Float → List ℕ
along_text x = (72 ∷ []) ++ length_text x

-- the step from bin k to before bin e; none behind the last bin
unfoldable pub step_text : Look → TurnSide → TurnStockSpec → List Float → List Float → Stretch → ℕ → ℕ → List ℕ
step_text look side spec cs ds s k e =
    pick (ltb k (long_of s)) (turn_text side spec s k (edge_of look side cs ds s k) ++ along_text (far_end side spec s (e - 1))) []

-- a step: the run of one radius that begins at bin k, and its text
pub record StepsOn (look : Look) (side : TurnSide) (spec : TurnStockSpec) (cs ds : List Float) (s : Stretch) (k : ℕ) (out : Lent ℕ) (r : Step) : Type 0 where
  pub run : RunEnds (edge_of look side cs ds s) (long_of s) k r.next
  pub text : WritesLine out (step_text look side spec cs ds s k r.next) r.len
