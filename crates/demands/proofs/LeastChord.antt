-- A finding: a chord of the least length has a normal that is 1.41 long, and inside a bar a nose along it is certified to metal that it does not cut. The Rust answers the same (docs/DIFFERENCES.md). Assumes nothing.
use mathlib.Core.Path.{◌≡◌, refl}
use mathlib.Core.List.{List, [], ◌∷◌}
use Prim.Native.Nat.{ℕ}
use lib.Ieee
use lib.Ieee.{Float, binary64, of_bits}
use Rattle.refusals.specs.Paper.{onward}
use Rattle.floats.specs.Pick.{pick}
use Rattle.floats.specs.Numbers.{zero64, least_of, greatest_of, size_of, clean_of, minus_zero}
use Rattle.numbers.specs.Root.{root_below, whole_root, root_within, root_of}
use Rattle.numbers.specs.Length.{tiny_parts, plain_length, scaled_back, length_of}
use Rattle.stock.specs.declared.TurnStockSpec.{TurnStockSpec}
use Rattle.stock.specs.declared.TurnCell.{TurnCell}
use Rattle.stock.specs.declared.TurnSide.TheVariants.{Inner}
use Rattle.stock.specs.Bin.{bin_of}
use Rattle.reach.specs.Low.{lower_of, upper_of}
use Rattle.reach.specs.Reach.{deeper, shallower, deep_of, sure_of, limit_of, with_pair, own_of, cut_by, cut_cell, act_cell, flipped, stored_of, reach_from}
use Rattle.nose.specs.Capsule.{end_at, facing, normal_of, shifted, line_at, side_at, capsule_min_r, least_point, capsule_lowest}
use Rattle.nose.specs.Nose.{clean_at, segment_at, in_bin, low_with, high_with, with_segment, nose_to, nose_reach, nose_act}

abbrev three : Float
three = of_bits binary64 0x4008000000000000

abbrev five : Float
five = of_bits binary64 0x4014000000000000

abbrev ten : Float
ten = of_bits binary64 0x4024000000000000

-- z 0..8, outer 10, no bore, cells of 1
abbrev bar : TurnStockSpec
bar = record { z_min_mm = zero64; z_max_mm = of_bits binary64 0x4020000000000000; outer_radius_mm = ten; bore_radius_mm = zero64; cell_mm = of_bits binary64 0x3FF0000000000000; max_cells = 4096 }

-- a cell of it, by its inner bounds
abbrev cell : Float → Float → TurnCell
cell lower upper = record { outer = record { lower_mm = ten; upper_mm = ten }; inner = record { lower_mm = lower; upper_mm = upper } }

-- from (r 0, z 0) to (5e-324, -5e-324), with no sag
abbrev chord : List Float
chord = zero64 ∷ zero64 ∷ of_bits binary64 0x0000000000000001 ∷ of_bits binary64 0x8000000000000001 ∷ zero64 ∷ []

-- what a nose of radius 5 makes of bin i of the whole bar, inside
abbrev after : ℕ → TurnCell
after i = act_cell (nose_act bar Inner five chord) i (cell zero64 zero64)

-- Bin 4 is certified to 3 and may be cut to 5, where the nose reaches 3 at z = 4 and 5e-324 at z = 5. Bin 5 may be cut to 5, where it reaches 5e-324.
pub least-chord-clears : (after 4 ≡ cell three five) × (after 5 ≡ cell zero64 five)
unfolding onward pick least_of greatest_of size_of minus_zero clean_of root_below whole_root root_within root_of tiny_parts plain_length scaled_back length_of bin_of deeper shallower deep_of sure_of limit_of with_pair own_of cut_by cut_cell lower_of upper_of flipped stored_of reach_from end_at facing normal_of shifted line_at side_at capsule_min_r least_point capsule_lowest clean_at segment_at in_bin low_with high_with with_segment nose_to nose_reach nose_act Ieee.of_bits Ieee.of_fields Ieee.odd Ieee.eq Ieee.ne Ieee.lt Ieee.le Ieee.div Ieee.sub Ieee.add Ieee.mul Ieee.neg Ieee.sum Ieee.round Ieee.units Ieee.of_int Ieee.size Ieee.span Ieee.climb Ieee.to_unsigned
least-chord-clears = (refl, refl)
