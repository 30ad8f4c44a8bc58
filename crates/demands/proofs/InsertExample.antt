-- The examples of Req 10's call for an insert, computed from the rules: a groove in a wheel, from both ends; an insert beside it, and past its deepest point; a tube that erosion leaves nothing of; points as far as they may be. Assumes nothing.
use Rattle.std.specs.Prelude.{None, Some}
use mathlib.Core.Path.{◌≡◌, refl}
use mathlib.Core.List.{List, [], ◌∷◌}
use lib.Ieee
use lib.Ieee.{Float, binary64, of_bits}
use Rattle.refusals.specs.Paper.{answers, demand}
use Rattle.floats.specs.Pick.{pick}
use Rattle.floats.specs.Numbers.{zero64, least_of, greatest_of, minus_zero, clean_of, usable_to, all_to}
use Rattle.envelope.specs.Envelope.{points_good, rises_to, falls_to, order_of, count_to, span_of, u_at, v_at, across, segment_at, higher, highest_to}
use Rattle.insert.specs.Insert.{polygon_good, touch_asks, eroded_asks, most_to, most_of, bore_at, sample_at, both, with_inside, sampled_to, moved_of, offset_of, edge_at, further, edges_to, edges_of, beyond, touch_at, with_candidate, with_point, points_to, polygon_to, touch_of, touched, excess_of, penetration_of, eroded_of}

-- 10.0
abbrev ten : Float
ten = of_bits binary64 0x4024000000000000

-- 2.0
abbrev two : Float
two = of_bits binary64 0x4000000000000000

-- 6.0
abbrev six : Float
six = of_bits binary64 0x4018000000000000

-- 5.0
abbrev five : Float
five = of_bits binary64 0x4014000000000000

-- 8.0
abbrev eight : Float
eight = of_bits binary64 0x4020000000000000

-- 3.0
abbrev three : Float
three = of_bits binary64 0x4008000000000000

-- 5.5
abbrev five-half : Float
five-half = of_bits binary64 0x4016000000000000

-- 4.0
abbrev four : Float
four = of_bits binary64 0x4010000000000000

-- 9.0
abbrev nine : Float
nine = of_bits binary64 0x4022000000000000

-- 0.1
abbrev tenth : Float
tenth = of_bits binary64 0x3FB999999999999A

-- -1000000.0
abbrev minus-million : Float
minus-million = of_bits binary64 0xC12E848000000000

-- 1000000.0
abbrev million : Float
million = of_bits binary64 0x412E848000000000

-- -2.0
abbrev minus-two : Float
minus-two = of_bits binary64 0xC000000000000000

-- -1.0
abbrev minus_one : Float
minus_one = of_bits binary64 0xBFF0000000000000

-- -5.0
abbrev minus-five : Float
minus-five = of_bits binary64 0xC014000000000000

-- 2.9000000000000004
abbrev two-nine : Float
two-nine = of_bits binary64 0x4007333333333334

-- 0.40000000000000036
abbrev two-fifths : Float
two-fifths = of_bits binary64 0x3FD99999999999A0

-- 5.9
abbrev five-nine : Float
five-nine = of_bits binary64 0x401799999999999A

-- 3.5
abbrev three-half : Float
three-half = of_bits binary64 0x400C000000000000

-- 1.0
abbrev one : Float
one = of_bits binary64 0x3FF0000000000000

-- 0.05
abbrev twentieth : Float
twentieth = of_bits binary64 0x3FA999999999999A

-- 9.9
abbrev nine-nine : Float
nine-nine = of_bits binary64 0x4023CCCCCCCCCCCD

-- 5.05
abbrev five-twentieth : Float
five-twentieth = of_bits binary64 0x4014333333333333

-- -999995.0
abbrev minus-999995 : Float
minus-999995 = of_bits binary64 0xC12E847600000000

-- 0.5
abbrev half : Float
half = of_bits binary64 0x3FE0000000000000

abbrev wheel : List Float
wheel = zero64 ∷ ten ∷ two ∷ ten ∷ two ∷ six ∷ five ∷ six ∷ five ∷ ten ∷ eight ∷ ten ∷ []

abbrev turned : List Float
turned = eight ∷ ten ∷ five ∷ ten ∷ five ∷ six ∷ two ∷ six ∷ two ∷ ten ∷ zero64 ∷ ten ∷ []

abbrev insert : List Float
insert = three ∷ five-half ∷ four ∷ five-half ∷ four ∷ nine ∷ three ∷ nine ∷ []

abbrev tube : List Float
tube = zero64 ∷ tenth ∷ eight ∷ tenth ∷ []

abbrev far : List Float
far = minus-million ∷ five ∷ million ∷ five ∷ []

abbrev point : List Float
point = three ∷ five ∷ []

abbrev beside : List Float
beside = nine ∷ five ∷ ten ∷ six ∷ []

abbrev deep : List Float
deep = minus-two ∷ five ∷ minus_one ∷ six ∷ []

abbrev below : List Float
below = three ∷ minus-five ∷ four ∷ minus-five ∷ []

abbrev Groove : Type 0
Groove =
    (excess_of wheel insert tenth ≡ answers (Some two-nine))
    × (penetration_of wheel insert tenth ≡ answers (Some two-fifths))
    × (eroded_of wheel three-half tenth ≡ answers (Some five-nine))
    × (excess_of turned insert tenth ≡ answers (Some two-nine))
    × (penetration_of turned insert tenth ≡ answers (Some two-fifths))
    × (eroded_of turned three-half tenth ≡ answers (Some five-nine))

abbrev Beside : Type 0
Beside =
    (penetration_of wheel point zero64 ≡ answers (Some one))
    × (excess_of wheel point zero64 ≡ answers (Some minus_one))
    × (excess_of wheel beside tenth ≡ answers None)
    × (excess_of wheel deep tenth ≡ answers (Some five-nine))
    × (penetration_of wheel deep tenth ≡ answers None)
    × (eroded_of wheel twentieth tenth ≡ answers None)
    × (eroded_of wheel tenth tenth ≡ answers (Some nine-nine))

abbrev Ends : Type 0
Ends =
    (penetration_of tube below tenth ≡ answers None)
    × (penetration_of tube below twentieth ≡ answers (Some five-twentieth))
    × (eroded_of far zero64 million ≡ answers (Some minus-999995))
    × (eroded_of far million half ≡ answers None)

pub insert-examples : Groove × Beside × Ends
unfolding touched eroded_of touch_asks eroded_asks polygon_good points_good usable_to demand clean_of minus_zero pick most_to most_of bore_at sample_at both with_inside sampled_to moved_of offset_of edge_at further edges_to edges_of beyond touch_at with_candidate with_point points_to polygon_to touch_of span_of order_of rises_to falls_to all_to count_to u_at v_at highest_to segment_at higher across least_of greatest_of Ieee.of_bits Ieee.of_fields Ieee.odd Ieee.eq Ieee.lt Ieee.le Ieee.div Ieee.mul Ieee.sub Ieee.add Ieee.neg Ieee.sum Ieee.round Ieee.units Ieee.size Ieee.span Ieee.climb Ieee.fits
insert-examples = (
  (refl, refl, refl, refl, refl, refl),
  (refl, refl, refl, refl, refl, refl, refl),
  (refl, refl, refl, refl),
)
