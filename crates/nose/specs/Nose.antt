-- What a round nose, swept along segments, reaches in a bin. Assumes nothing.
use Rattle.std.specs.Prelude.{ℕ, zero, suc, ◌+◌, ◌*◌, ◌/◌, Bool, true, ◌&&◌, ◌||◌, List, eqb, leb, length, Float, Option, None, Some}
use Rattle.std.specs.Float.{nan}
use Rattle.std.specs.Float.Ieee.{lt, le}
use Rattle.refusals.specs.Limits.{segment_limit}
use Rattle.floats.specs.Pick.{pick}
use Rattle.floats.specs.Numbers.{◌+₆₄◌, ◌-₆₄◌, zero64, least_of, greatest_of, clean_of, usable}
use Rattle.stock.specs.declared.TurnStockSpec.{TurnStockSpec}
use Rattle.stock.specs.declared.TurnSide.{TurnSide}
use Rattle.stock.specs.declared.ZRange.{ZRange}
use Rattle.stock.specs.Bin.{bin_of}
use Rattle.stock.specs.Cell.{number_at}
use Rattle.reach.specs.declared.Swept.{Swept}
use Rattle.reach.specs.Low.{lower_of, upper_of}
use Rattle.reach.specs.declared.Reach.{Reach}
use Rattle.reach.specs.Reach.{flipped, reach_from, Act}
use Rattle.nose.specs.declared.Point.{Point}
use Rattle.nose.specs.declared.Segment.{Segment}
use Rattle.nose.specs.Capsule.{pt, capsule_min_r, capsule_lowest}

-- ---- the lent segments, five numbers each: the radius and z of a, those of b, and the sag
-- a number of a list, with -0.0 read as +0.0, and no number past its end
unfoldable pub clean_at : List Float → ℕ → Float
clean_at xs k = clean_of (number_at xs k)

-- segment k
unfoldable pub segment_at : List Float → ℕ → TurnSide → Segment
segment_at xs k side =
    record {
      a = pt (flipped side (clean_at xs (5 * k))) (clean_at xs (5 * k + 1));
      b = pt (flipped side (clean_at xs (5 * k + 2))) (clean_at xs (5 * k + 3));
      sag = clean_at xs (5 * k + 4);
    }

-- past the end of a list
abbrev pub no_segment : Segment
no_segment = record { a = pt nan nan; b = pt nan nan; sag = nan }

-- how many there are
abbrev pub segment_count : List Float → ℕ
segment_count xs = length xs / 5

-- the segment whose numbers start at a place: every number usable, sag >= 0
unfoldable pub segment_good : List Float → ℕ → Bool
segment_good xs at =
    usable (number_at xs at) && usable (number_at xs (at + 1)) && usable (number_at xs (at + 2)) && usable (number_at xs (at + 3)) && usable (number_at xs (at + 4))
    && le zero64 (number_at xs (at + 4))

-- the first k segments are good
unfoldable pub good_to : List Float → ℕ → Bool
good_to xs zero = true
good_to xs (suc k) = good_to xs k && segment_good xs (5 * k)

-- whole segments, no more than the limit; rn usable, rn >= 0; every segment good
unfoldable pub segments_good : Float → List Float → Bool
segments_good rn xs =
    eqb (5 * segment_count xs) (length xs) && leb (segment_count xs) segment_limit
    && (usable rn && le zero64 rn && good_to xs (segment_count xs))

-- ---- low and high of a bin
-- a point's radius, where the point lies in the bin
unfoldable pub in_bin : Point → ZRange → Option Float
in_bin p bin = pick (le bin.za p.z && le p.z bin.zb) (Some p.r) None

-- low: the grown capsule's least radius in the bin, at its lowest point or at the bin's ends
unfoldable pub low_with : Option Float → Segment → Float → ZRange → Option Float
low_with low s grown bin =
    lower_of (lower_of (lower_of low (in_bin (capsule_lowest s.a s.b grown) bin)) (capsule_min_r s.a s.b grown bin.za)) (capsule_min_r s.a s.b grown bin.zb)

-- high: only where sag <= rn and the shrunk capsule reaches both ends of the bin, and then the larger of the two
unfoldable pub high_with : Option Float → Segment → Float → ZRange → Option Float
high_with high s rn bin =
    let shrunk = rn -₆₄ s.sag in
    pick (lt rn s.sag) high (lower_of high (upper_of (capsule_min_r s.a s.b shrunk bin.za) (capsule_min_r s.a s.b shrunk bin.zb)))

-- one segment more; one whose grown capsule stands beside the bin is passed over
unfoldable pub with_segment : Swept → Segment → Float → ZRange → Swept
with_segment acc s rn bin =
    let grown = rn +₆₄ s.sag in
    pick (lt (greatest_of s.a.z s.b.z +₆₄ grown) bin.za || lt bin.zb (least_of s.a.z s.b.z -₆₄ grown)) acc
    (record { low = low_with acc.low s grown bin; high = high_with acc.high s rn bin })

-- over no segments
abbrev pub nothing : Swept
nothing = record { low = None; high = None }

-- over the first k segments
unfoldable pub nose_to : TurnSide → Float → List Float → ZRange → ℕ → Swept
nose_to side rn xs bin zero = nothing
nose_to side rn xs bin (suc k) = with_segment (nose_to side rn xs bin k) (segment_at xs k side) rn bin

-- ---- what the nose reaches
-- the nose along all segments, in a bin
unfoldable pub nose_reach : TurnSide → Float → List Float → ZRange → Reach
nose_reach side rn xs bin =
    let found = nose_to side rn xs bin (segment_count xs) in
    reach_from side found.low found.high

-- the cut of a nose, in a spec whose -0.0 is read as +0.0; that of rn is read so here
unfoldable pub nose_act : TurnStockSpec → TurnSide → Float → List Float → Act
nose_act spec side rn xs = record { side = side; at = λ i. nose_reach side (clean_of rn) xs (bin_of spec i) }
