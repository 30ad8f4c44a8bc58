-- The points of a profile, three numbers each: radius, z, and the bulge of the arc to the next point. And what refusal 17 asks. Assumes nothing.
use Rattle.std.specs.Prelude.{ℕ, zero, suc, ◌+◌, ◌-◌, ◌*◌, ◌/◌, Bool, true, false, ◌&&◌, List, eqb, leb, length, get_or, Float}
use Rattle.std.specs.Float.{nan, binary64}
use Rattle.std.specs.Float.Ieee.{of_bits, neg, lt, le}
use Rattle.refusals.specs.Limits.{profile_limit}
use Rattle.refusals.specs.Paper.{Paper, answers, refuses}
use Rattle.floats.specs.Numbers.{◌-₆₄◌, zero64, one64, clean_of, usable}
use Rattle.numbers.specs.Length.{length_of}
use Rattle.profile.specs.declared.Point.{Point}

-- a number of a list, with -0.0 read as +0.0, and no number past its end
unfoldable pub clean_at : List Float → ℕ → Float
clean_at xs k = clean_of (get_or xs k nan)

-- point k
unfoldable pub point_at : List Float → ℕ → Point
point_at xs k = record { r = clean_at xs (3 * k); z = clean_at xs (3 * k + 1) }

-- the bulge of the arc from point k to the next
unfoldable pub bulge_at : List Float → ℕ → Float
bulge_at xs k = clean_at xs (3 * k + 2)

-- how many points there are
abbrev pub point_count : List Float → ℕ
point_count xs = length xs / 3

-- every number usable, the radius not negative, the bulge at most 1 in size
unfoldable pub point_good : Point → Float → Bool
point_good p bulge = usable p.r && usable p.z && usable bulge && le zero64 p.r && le (neg one64) bulge && le bulge one64

-- the first k points are good
unfoldable pub good_to : List Float → ℕ → Bool
good_to xs zero = true
good_to xs (suc k) = good_to xs k && point_good (point_at xs k) (bulge_at xs k)

-- 1e-9
abbrev pub nearest : Float
nearest = of_bits binary64 0x3E112E0BE826D695

-- a distance over 1e-9
abbrev pub farther : Paper Float → Bool
farther (answers l) = lt nearest l
farther (refuses n) = false

-- two points that are farther apart than 1e-9
unfoldable pub apart : Point → Point → Bool
apart a b = farther (length_of (b.z -₆₄ a.z) (b.r -₆₄ a.r))

-- each of the first k points is apart from the next
unfoldable pub apart_to : List Float → ℕ → Bool
apart_to xs zero = true
apart_to xs (suc k) = apart_to xs k && apart (point_at xs k) (point_at xs (k + 1))

-- what 17 asks: whole points, 2 to 256 of them; a tolerance that is usable and not negative; good points, neighbours apart
unfoldable pub profile_good : List Float → Float → Bool
profile_good xs tol =
    eqb (3 * point_count xs) (length xs) && leb 2 (point_count xs) && leb (point_count xs) profile_limit
    && (usable tol && le zero64 tol && good_to xs (point_count xs) && apart_to xs (point_count xs - 1))
