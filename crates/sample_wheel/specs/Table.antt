-- P1 to P13, row by row: what is asked, and what 01 says. Assumes nothing.
use Rattle.std.specs.Prelude.{ℕ, List, [], ◌∷◌, Float}
use Rattle.std.specs.Float.{binary64}
use Rattle.std.specs.Float.Ieee.{of_bits}
use Rattle.refusals.specs.Paper.{Paper}
use Rattle.stock.specs.declared.TurnStockSpec.{TurnStockSpec}
use Rattle.stock.specs.declared.TurnSide.TheVariants.{Outer}
use Rattle.rings.specs.declared.Ring.{Ring}
use Rattle.rings.specs.Ring.{ring}
use Rattle.cuts.specs.declared.Cut.TheVariants.{Thread, Drill}
use Rattle.demands.specs.Tool.{Cutter, single, nose, polygon}
use Rattle.sample_wheel.specs.Wheel.{Ask, root, turned, ringed, seen, Says, says}

-- ---- the numbers, by their bits
abbrev bits : ℕ → Float
bits n = of_bits binary64 n

abbrev n0 : Float
n0 = bits 0x0000000000000000

abbrev half : Float
half = bits 0x3FE0000000000000

abbrev n1 : Float
n1 = bits 0x3FF0000000000000

abbrev less1 : Float
less1 = bits 0xBFF0000000000000

abbrev n2 : Float
n2 = bits 0x4000000000000000

abbrev n3 : Float
n3 = bits 0x4008000000000000

abbrev n4 : Float
n4 = bits 0x4010000000000000

abbrev n4half : Float
n4half = bits 0x4012000000000000

abbrev n5 : Float
n5 = bits 0x4014000000000000

abbrev n6 : Float
n6 = bits 0x4018000000000000

abbrev n7 : Float
n7 = bits 0x401C000000000000

abbrev n8 : Float
n8 = bits 0x4020000000000000

abbrev n9 : Float
n9 = bits 0x4022000000000000

abbrev n9half : Float
n9half = bits 0x4023000000000000

abbrev n10 : Float
n10 = bits 0x4024000000000000

abbrev n12 : Float
n12 = bits 0x4028000000000000

-- ---- the bars and the cuts

-- z 0..9, outer 10, no bore, cells of 3
abbrev bar_q : TurnStockSpec
bar_q = record { z_min_mm = n0; z_max_mm = n9; outer_radius_mm = n10; bore_radius_mm = n0; cell_mm = n3; max_cells = 4096 }

-- z 0..4, the same radii, cells of 1
abbrev bar_s : TurnStockSpec
bar_s = record { z_min_mm = n0; z_max_mm = n4; outer_radius_mm = n10; bore_radius_mm = n0; cell_mm = n1; max_cells = 4096 }

-- the outside nose of radius 5 from (r 9, z 3) to (9, 6), with a sag
abbrev nose_with : Float → Cutter
nose_with sag = nose Outer n5 (n9 ∷ n3 ∷ n9 ∷ n6 ∷ sag ∷ [])

abbrev thread : Cutter
thread = single (Thread n0 n9 n3)

-- a flat drill through the bar
abbrev drilled : Cutter
drilled = single (Drill less1 n7 n0)

-- (z, r)
abbrev square : Cutter
square = polygon Outer half (n0 ∷ n4 ∷ n3 ∷ n4 ∷ n3 ∷ n12 ∷ n0 ∷ n12 ∷ [])

abbrev ring_a : Ring
ring_a = ring n0 n6 n2 n6

abbrev ring_b : Ring
ring_b = ring n3 n9 n4 n8

-- covered by the first
abbrev ring_c : Ring
ring_c = ring n1 n2 n3 n4

-- outside the bar
abbrev ring_d : Ring
ring_d = ring n1 n2 n10 n12

-- ---- what is left

-- a cell of a bar without a bore that was not bored: its outer bounds
abbrev solid : Float → Float → List Float → List Float
solid l u more = l ∷ u ∷ n0 ∷ n0 ∷ more

-- a cell of a bar that was not turned: its inner bounds
abbrev bored : Float → Float → List Float → List Float
bored l u more = n10 ∷ n10 ∷ l ∷ u ∷ more

-- the rings of P11, z and then r
abbrev stored : List Float
stored = n0 ∷ n6 ∷ n2 ∷ n6 ∷ n6 ∷ n9 ∷ n4 ∷ n8 ∷ n3 ∷ n6 ∷ n6 ∷ n8 ∷ []

-- ---- the rows
pub record Row : Type 0 where
  pub ask : Ask
  pub answer : Paper Says

abbrev row : Ask → Paper Says → Row
row a s = record { ask = a; answer = s }

abbrev pub P1 : Row
P1 = row (root n4) (says (n2 ∷ []) 0)

abbrev pub P2 : Row
P2 = row (root (bits 0x0000000000000001)) (says (bits 0x1E60000000000000 ∷ []) 0)

abbrev pub P3 : Row
P3 = row (turned bar_q (nose_with n0 ∷ [])) (says (solid n4 n5 (solid n4 n4 (solid n4 n5 []))) 1)

abbrev pub P4 : Row
P4 = row (turned bar_q (nose_with n6 ∷ [])) (says (solid n0 n10 (solid n0 n10 (solid n0 n10 []))) 1)

abbrev pub P5 : Row
P5 = row (turned bar_q (nose_with n5 ∷ [])) (says (solid n0 n10 (solid n0 n9 (solid n0 n10 []))) 1)

abbrev pub P6 : Row
P6 = row (turned bar_s (single (Thread n3 n1 n8) ∷ [])) (says (solid n10 n10 (solid n8 n10 (solid n8 n10 (solid n10 n10 [])))) 1)

abbrev pub P7 : Row
P7 = row (turned bar_s (single (Drill n1 n4 n2) ∷ [])) (says (bored n0 n0 (bored n0 n2 (bored n2 n4 (bored n4 n4 [])))) 1)

abbrev pub P8 : Row
P8 = row (turned bar_q (square ∷ [])) (says (solid n4 n4half (solid n10 n10 (solid n10 n10 []))) 1)

-- turned first, and threaded first
abbrev pub P9 : Row
P9 = row (turned bar_q (nose_with n0 ∷ thread ∷ [])) (says (solid n3 n5 (solid n3 n4 (solid n3 n5 []))) 2)

abbrev pub P9b : Row
P9b = row (turned bar_q (thread ∷ nose_with n0 ∷ [])) (says (solid n3 n5 (solid n3 n4 (solid n3 n5 []))) 2)

-- turned first, and drilled first: in bin 1 all four bounds are 4, and 7
abbrev pub P10 : Row
P10 = row (turned bar_q (nose_with n0 ∷ drilled ∷ [])) (says (n4 ∷ n5 ∷ n5 ∷ n5 ∷ n4 ∷ n4 ∷ n4 ∷ n4 ∷ n4 ∷ n5 ∷ n5 ∷ n5 ∷ []) 2)

abbrev pub P10b : Row
P10b = row (turned bar_q (drilled ∷ nose_with n0 ∷ [])) (says (n7 ∷ n7 ∷ n7 ∷ n7 ∷ n7 ∷ n7 ∷ n7 ∷ n7 ∷ n7 ∷ n7 ∷ n7 ∷ n7 ∷ []) 2)

abbrev pub P11 : Row
P11 = row (ringed bar_q (ring_a ∷ ring_b ∷ [])) (says stored 2)

abbrev pub P12 : Row
P12 = row (ringed bar_q (ring_a ∷ ring_b ∷ ring_c ∷ [])) (says stored 3)

abbrev pub P12b : Row
P12b = row (ringed bar_q (ring_a ∷ ring_b ∷ ring_c ∷ ring_d ∷ [])) (says stored 3)

-- on the edge of two bins the most of both: outer 5 by 02 (Req 05), where 01 had 4, that of the second alone
abbrev pub P13 : Row
P13 = row (seen bar_q (nose_with n0 ∷ []) n3) (says (n0 ∷ n5 ∷ []) 1)

abbrev pub P13b : Row
P13b = row (seen bar_q (nose_with n0 ∷ []) n9) (says (n0 ∷ n5 ∷ []) 1)

abbrev pub P13c : Row
P13c = row (seen bar_q (nose_with n0 ∷ []) n9half) (says [] 1)

abbrev pub table : List Row
table = P1 ∷ P2 ∷ P3 ∷ P4 ∷ P5 ∷ P6 ∷ P7 ∷ P8 ∷ P9 ∷ P9b ∷ P10 ∷ P10b ∷ P11 ∷ P12 ∷ P12b ∷ P13 ∷ P13b ∷ P13c ∷ []
