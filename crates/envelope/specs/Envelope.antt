-- The envelope of a profile: a chain of points (u, v), lent flat as u, v, u, v, .., its order, the part of it between two bounds, and its radius over u. Assumes nothing.
use Rattle.std.specs.Prelude.{Bool, ◌&&◌, ◌||◌, List, [], ℕ, zero, suc, ◌+◌, ◌*◌, ◌/◌, ◌%◌, ◌-◌, min, leb, eqb, length, get_or, take, drop, ℤ, pos, negsuc, Float, Option, None, Some, Err, Ok, Result}
use Rattle.std.specs.Float.{nan}
use Rattle.std.specs.Float.Ieee.{le, lt, eq}
use Rattle.refusals.specs.declared.Refusal.{Refusal}
use Rattle.floats.specs.Pick.{pick}
use Rattle.floats.specs.Numbers.{◌+₆₄◌, ◌-₆₄◌, ◌*₆₄◌, ◌/₆₄◌, least_of, greatest_of, clean_of, usable, usable_to, all_to}
use Rattle.refusals.specs.Number.{reason_of}
use Rattle.refusals.specs.Limits.{envelope_limit}
use Rattle.refusals.specs.Paper.{Paper, answers, refuses, demand, onward}
use Rattle.envelope.specs.declared.segments.Point.{Point}
use Rattle.envelope.specs.declared.Span.{Span}
use Rattle.envelope.specs.declared.Radii.{Radii}
use Rattle.envelope.specs.declared.Test.{Test}
use Rattle.envelope.specs.declared.Test.TheVariants.{Below, AtMost, Above, AtLeast}

-- ---- the points
-- how many there are
abbrev pub count : List Float → ℕ
count ps = length ps / 2

-- u of point i; -0.0 is read as +0.0
unfoldable pub u_at : List Float → ℕ → Float
u_at ps i = clean_of (get_or ps (2 * i) nan)

-- v of point i; -0.0 is read as +0.0
unfoldable pub v_at : List Float → ℕ → Float
v_at ps i = clean_of (get_or ps (2 * i + 1) nan)

-- point i
abbrev pub point_at : List Float → ℕ → Point
point_at ps i = record { u = u_at ps i; v = v_at ps i }

-- ---- refusal 14
-- whole points, not too many, every number finite and at most 1e6 in size
unfoldable pub points_good : List Float → Bool
points_good ps = eqb (length ps % 2) 0 && leb (count ps) envelope_limit && usable_to ps (length ps)

-- ---- the order
-- u does not fall over the first k steps from point to point
unfoldable pub rises_to : List Float → ℕ → Bool
rises_to ps k = all_to (λ i. le (u_at ps i) (u_at ps (i + 1))) k

-- u does not rise over the first k steps
unfoldable pub falls_to : List Float → ℕ → Bool
falls_to ps k = all_to (λ i. le (u_at ps (i + 1)) (u_at ps i)) k

-- u never falls
abbrev pub rises : List Float → Bool
rises ps = rises_to ps (count ps - 1)

-- u never rises
abbrev pub falls : List Float → Bool
falls ps = falls_to ps (count ps - 1)

-- 1 if u never falls, else -1 if it never rises, else 0
unfoldable pub order_of : List Float → ℤ
order_of ps = pick (rises ps) (pos 1) (pick (falls ps) (negsuc 0) (pos 0))

-- the order of the lent points
unfoldable pub ordered_of : List Float → Paper ℤ
ordered_of ps = demand (points_good ps) 14 (answers (order_of ps))

-- ---- the part between two bounds
-- what a u is tested for against a bound
abbrev pub passes : Test → Float → Float → Bool
passes Below u x = lt u x
passes AtMost u x = le u x
passes Above u x = lt x u
passes AtLeast u x = le x u

-- how many of the first k points pass
unfoldable pub count_to : List Float → Test → Float → ℕ → ℕ
count_to ps t x zero = 0
count_to ps t x (suc i) = count_to ps t x i + pick (passes t (u_at ps i) x) 1 0

-- how many of all points pass
abbrev pub how_many : List Float → Test → Float → ℕ
how_many ps t x = count_to ps t x (count ps)

-- the points before `end`, from `start` on
abbrev pub span : ℕ → ℕ → Span
span a b = record { start = a; end = b }

-- all of them
abbrev pub all_points : List Float → Span
all_points ps = span 0 (count ps)

-- The points with lo <= u <= hi: where u never falls, they stand after those with u < lo and end with those with u <= hi; where it never rises,
-- after those with u > hi, and end with those with u >= lo. Where neither, all points.
unfoldable pub span_of : List Float → Float → Float → Span
span_of ps lo hi =
    pick (rises ps) (span (how_many ps Below lo) (how_many ps AtMost hi))
    (pick (falls ps) (span (how_many ps Above hi) (how_many ps AtLeast lo)) (all_points ps))

-- the same, and nothing where lo > hi
unfoldable pub part_of : List Float → Float → Float → Span
part_of ps lo hi = pick (le lo hi) (span_of ps lo hi) (span 0 0)

-- the part of the lent points
unfoldable pub within_of : List Float → Float → Float → Paper Span
within_of ps lo hi = demand (points_good ps && (usable lo && usable hi)) 14 (answers (part_of ps (clean_of lo) (clean_of hi)))

-- the numbers of the part as they were lent; none where it is refused
unfoldable pub part_numbers : List Float → Paper Span → List Float
part_numbers ps (answers s) = take (2 * (s.end - s.start)) (drop (2 * s.start) ps)
part_numbers ps (refuses n) = []

-- whether the part is refused
unfoldable pub within_refusal_of : List Float → Float → Float → Paper (Unit {0})
within_refusal_of ps lo hi = onward (within_of ps lo hi) (λ s. answers tt)

-- ---- the radius
-- the v at u on the line from p to q
unfoldable pub across : Point → Point → Float → Float
across p q u = p.v +₆₄ (u -₆₄ p.u) /₆₄ (q.u -₆₄ p.u) *₆₄ (q.v -₆₄ p.v)

-- one point wider on each side, of n points
abbrev pub wider : Span → ℕ → Span
wider s n = span (s.start - 1) (min (s.end + 1) n)

-- ---- the highest radius at u
-- the segment from p to q at u: none beyond its ends, the greater end of an upright one
unfoldable pub segment_at : Point → Point → Float → Option Float
segment_at p q u =
    pick (lt u (least_of p.u q.u) || lt (greatest_of p.u q.u) u) None
    (Some (pick (eq q.u p.u) (greatest_of p.v q.v) (across p q u)))

-- the greater of two radii, where there are two
unfoldable pub higher : Option Float → Option Float → Option Float
higher None r = r
higher (Some a) None = Some a
higher (Some a) (Some b) = Some (greatest_of a b)

-- over the k segments from point a on, in order
unfoldable pub highest_to : List Float → Float → ℕ → ℕ → Option Float
highest_to ps u a zero = None
highest_to ps u a (suc k) = higher (highest_to ps u a k) (segment_at (point_at ps (a + k)) (point_at ps (a + k + 1)) u)

-- over the segments between the points of a span
abbrev pub highest_in : List Float → Span → Float → Option Float
highest_in ps s u = highest_to ps u s.start (s.end - s.start - 1)

-- over the part at u, one point wider on each side
abbrev pub highest_at : List Float → Float → Option Float
highest_at ps u = highest_in ps (wider (span_of ps u u) (count ps)) u

-- the highest radius at u
unfoldable pub radius_at_of : List Float → Float → Paper (Option Float)
radius_at_of ps u = demand (points_good ps && usable u) 14 (answers (highest_at ps (clean_of u)))

-- ---- the lowest and the highest radius over lo..hi
-- the radii with one more among them
unfoldable pub taken : Option Radii → Float → Option Radii
taken None v = Some (record { lowest = v; highest = v })
taken (Some r) v = Some (record { lowest = least_of r.lowest v; highest = greatest_of r.highest v })

-- the radii with those of the segment from p to q between a and b: both ends of an upright one, and of another those at a and at b
unfoldable pub segment_over : Option Radii → Point → Point → Float → Float → Option Radii
segment_over r p q a b =
    pick (lt b a) r
    (pick (eq q.u p.u) (taken (taken r p.v) q.v) (taken (taken r (across p q a)) (across p q b)))

-- the same between lo and hi, as far as the segment reaches
unfoldable pub segment_in : Option Radii → Point → Point → Float → Float → Option Radii
segment_in r p q lo hi = segment_over r p q (greatest_of (least_of p.u q.u) lo) (least_of (greatest_of p.u q.u) hi)

-- over the k segments from point a on, in order
unfoldable pub radii_to : List Float → Float → Float → ℕ → ℕ → Option Radii
radii_to ps lo hi a zero = None
radii_to ps lo hi a (suc k) = segment_in (radii_to ps lo hi a k) (point_at ps (a + k)) (point_at ps (a + k + 1)) lo hi

-- over the segments between the points of a span
abbrev pub radii_in : List Float → Span → Float → Float → Option Radii
radii_in ps s lo hi = radii_to ps lo hi s.start (s.end - s.start - 1)

-- over the part between lo and hi, one point wider on each side; none where lo > hi
unfoldable pub radii_of : List Float → Float → Float → Option Radii
radii_of ps lo hi = pick (le lo hi) (radii_in ps (wider (span_of ps lo hi) (count ps)) lo hi) None

-- the lowest and the highest radius over lo..hi
unfoldable pub radius_range_of : List Float → Float → Float → Paper (Option Radii)
radius_range_of ps lo hi = demand (points_good ps && (usable lo && usable hi)) 14 (answers (radii_of ps (clean_of lo) (clean_of hi)))
