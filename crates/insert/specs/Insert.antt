-- Whether an insert touches: a polygon in (u, v) tried against an envelope, in the source's order of operations. Assumes nothing.
use Rattle.std.specs.Prelude.{◌≡◌, Bool, true, ◌&&◌, ◌||◌, List, ℕ, zero, suc, ◌+◌, ◌-◌, ◌%◌, ◌<◌, leb, eqb, Float, length, get_or, Option, None, Some}
use Rattle.std.specs.Option.{unwrap_or}
use Rattle.std.specs.Float.{nan}
use Rattle.std.specs.Float.Ieee.{le, lt, eq}
use Rattle.refusals.specs.Limits.{point_limit}
use Rattle.refusals.specs.Paper.{Paper, answers, demand}
use Rattle.floats.specs.Pick.{pick}
use Rattle.floats.specs.Numbers.{◌+₆₄◌, ◌-₆₄◌, zero64, least_of, greatest_of, clean_of, usable}
use Rattle.envelope.specs.declared.Span.{Span}
use Rattle.envelope.specs.Envelope.{count, u_at, v_at, point_at, points_good, order_of, span_of, across, higher, highest_at}
use Rattle.insert.specs.declared.Which.{Which}
use Rattle.insert.specs.declared.Which.TheVariants.{Least, Greatest}
use Rattle.insert.specs.declared.samples.Look.{Look}
use Rattle.insert.specs.declared.candidates.Trial.{Trial}

-- ---- refusal 14
-- whole points, 64 at most, every number usable
unfoldable pub polygon_good : List Float → Bool
polygon_good gs = leb (count gs) point_limit && points_good gs

-- usable, and not below 0
abbrev pub tolerance_good : Float → Bool
tolerance_good t = usable t && le zero64 t

-- what excess and penetration ask
unfoldable pub touch_asks : List Float → List Float → Float → Bool
touch_asks ps gs t = points_good ps && (polygon_good gs && tolerance_good t)

-- what eroded asks
unfoldable pub eroded_asks : List Float → Float → Float → Bool
eroded_asks ps u t = points_good ps && (usable u && tolerance_good t)

-- ---- the least or the greatest
-- Penetration takes the least throughout, of what is left of the part and of the insert; excess takes the greatest, of the bore and of the insert.
abbrev pub chosen : Which → Float → Float → Float
chosen Least a b = least_of a b
chosen Greatest a b = greatest_of a b

-- over the points from the first to k
unfoldable pub most_to : Which → List Float → ℕ → Float
most_to w ps zero = u_at ps 0
most_to w ps (suc k) = chosen w (most_to w ps k) (u_at ps (suc k))

-- the least or the greatest u of the points: of a bore the deepest and the front; 0 where there are none, and then nothing asks
unfoldable pub most_of : Which → List Float → Float
most_of w ps = pick (eqb (count ps) 0) zero64 (most_to w ps (count ps - 1))

-- ---- samples over the window from wlo to whi
-- the radius, or 0 where there is none
abbrev pub or_zero : Option Float → Float
or_zero r = unwrap_or r zero64

-- the bore at u: none, which is open, in front of it; 0 past its deepest point
unfoldable pub bore_at : List Float → Float → Option Float
bore_at ps u =
    pick (eqb (count ps) 0) None
    (pick (lt (most_of Greatest ps) u) None
    (pick (lt u (most_of Least ps)) (Some zero64) (Some (or_zero (highest_at ps u)))))

-- what is sampled at u: the part's radius, or the bore's
unfoldable pub sample_at : Which → List Float → Float → Option Float
sample_at Least ps u = highest_at ps u
sample_at Greatest ps u = bore_at ps u

-- the least or the greatest of two samples; none where one has none
unfoldable pub both : Which → Option Float → Option Float → Option Float
both w None r = None
both w (Some a) None = None
both w (Some a) (Some b) = Some (chosen w a b)

-- with one sample more, where it lies strictly inside the window
unfoldable pub with_inside : Which → List Float → Float → Float → Option Float → Float → Option Float
with_inside w ps wlo whi r u = pick (lt wlo u && lt u whi) (both w r (sample_at w ps u)) r

-- both ends of the window, and then the first k points from point a on
unfoldable pub sampled_to : Which → List Float → Float → Float → ℕ → ℕ → Option Float
sampled_to w ps wlo whi a zero = both w (sample_at w ps wlo) (sample_at w ps whi)
sampled_to w ps wlo whi a (suc k) = with_inside w ps wlo whi (sampled_to w ps wlo whi a k) (u_at ps (a + k))

-- over the points of a span
abbrev pub sampled_in : Which → List Float → Float → Float → Span → Option Float
sampled_in w ps wlo whi s = sampled_to w ps wlo whi s.start (s.end - s.start)

-- the part eroded by t, or the bore dilated by t
abbrev pub moved : Which → Float → Float → Float
moved Least t x = x -₆₄ t
moved Greatest t x = x +₆₄ t

unfoldable pub moved_of : Which → Float → Option Float → Option Float
moved_of w t None = None
moved_of w t (Some x) = Some (moved w t x)

-- at u, within t along u
unfoldable pub offset_of : Which → List Float → Float → Float → Option Float
offset_of w ps t u = moved_of w t (sampled_in w ps (u -₆₄ t) (u +₆₄ t) (span_of ps (u -₆₄ t) (u +₆₄ t)))

-- ---- the polygon's edges
-- the edge from point i to point j at u: none beyond its ends, of an upright one the least or the greatest end
unfoldable pub edge_at : Which → List Float → ℕ → ℕ → Float → Option Float
edge_at w gs i j u =
    pick (lt u (least_of (u_at gs i) (u_at gs j)) || lt (greatest_of (u_at gs i) (u_at gs j)) u) None
    (Some (pick (eq (u_at gs j) (u_at gs i)) (chosen w (v_at gs i) (v_at gs j)) (across (point_at gs i) (point_at gs j) u)))

-- the least or the greatest of two, where there are two
unfoldable pub further : Which → Option Float → Option Float → Option Float
further w None r = r
further w (Some a) None = Some a
further w (Some a) (Some b) = Some (chosen w a b)

-- over the first k edges of n points: edge i goes from point i to the next, the last back to point 0
unfoldable pub edges_to : Which → List Float → ℕ → Float → ℕ → Option Float
edges_to w gs n u zero = None
edges_to w gs n u (suc i) = further w (edges_to w gs n u i) (edge_at w gs i ((i + 1) % n) u)

-- over all edges
unfoldable pub edges_of : Which → List Float → Float → Option Float
edges_of w gs u = edges_to w gs (count gs) u (count gs)

-- ---- the candidates
-- how far the insert goes beyond: what is eroded less the insert's lowest, where something is left; the insert's highest less what is dilated
unfoldable pub beyond : Which → Option Float → Option Float → Option Float
beyond w None e = None
beyond w (Some o) None = None
beyond Least (Some o) (Some e) = pick (lt zero64 o) (Some (o -₆₄ e)) None
beyond Greatest (Some o) (Some e) = Some (e -₆₄ o)

-- at u
unfoldable pub touch_at : Which → List Float → List Float → Float → Float → Option Float
touch_at w ps gs t u = beyond w (offset_of w ps t u) (edges_of w gs u)

-- with one candidate more, where it lies over the polygon; of two the greater
unfoldable pub with_candidate : Which → List Float → List Float → Trial → Option Float → Float → Option Float
with_candidate w ps gs a r u = pick (le a.lo u && le u a.hi) (higher r (touch_at w ps gs a.tolerance u)) r

-- three candidates a point of the envelope: its u, less and more by t
unfoldable pub with_point : Which → List Float → List Float → Trial → Option Float → Float → Option Float
with_point w ps gs a r u =
    with_candidate w ps gs a
    (with_candidate w ps gs a (with_candidate w ps gs a r (u -₆₄ a.tolerance)) u)
    (u +₆₄ a.tolerance)

-- over the first k points from point b on
unfoldable pub points_to : Which → List Float → List Float → Trial → ℕ → ℕ → Option Float
points_to w ps gs a b zero = None
points_to w ps gs a b (suc k) = with_point w ps gs a (points_to w ps gs a b k) (u_at ps (b + k))

-- over the points of a span
abbrev pub points_in : Which → List Float → List Float → Trial → Span → Option Float
points_in w ps gs a s = points_to w ps gs a s.start (s.end - s.start)

-- and then one a point of the polygon, over the first k
unfoldable pub polygon_to : Which → List Float → List Float → Trial → ℕ → Option Float
polygon_to w ps gs a zero = points_in w ps gs a (span_of ps (a.lo -₆₄ a.tolerance) (a.hi +₆₄ a.tolerance))
polygon_to w ps gs a (suc k) = with_candidate w ps gs a (polygon_to w ps gs a k) (u_at gs k)

-- the tolerance, and the least and the greatest u of the polygon
abbrev pub trial_of : List Float → Float → Trial
trial_of gs t = record { tolerance = t; lo = most_of Least gs; hi = most_of Greatest gs }

-- the greatest over all candidates; none without a polygon
unfoldable pub touch_of : Which → List Float → List Float → Float → Option Float
touch_of w ps gs t = pick (eqb (count gs) 0) None (polygon_to w ps gs (trial_of gs t) (count gs))

-- ---- the three calls
unfoldable pub touched : Which → List Float → List Float → Float → Paper (Option Float)
touched w ps gs t = demand (touch_asks ps gs t) 14 (answers (touch_of w ps gs (clean_of t)))

-- how far the insert reaches beyond the bore dilated by t
abbrev pub excess_of : List Float → List Float → Float → Paper (Option Float)
excess_of ps gs t = touched Greatest ps gs t

-- how far the insert reaches into the part eroded by t
abbrev pub penetration_of : List Float → List Float → Float → Paper (Option Float)
penetration_of ps gs t = touched Least ps gs t

-- the radius of the part eroded by t at u
unfoldable pub eroded_of : List Float → Float → Float → Paper (Option Float)
eroded_of ps u t = demand (eroded_asks ps u t) 14 (answers (offset_of Least ps (clean_of t) (clean_of u)))

-- ---- what the code carries beside accepted points: their order, and the ends of the bore where one is asked
abbrev pub end_of : Which → Float → Float
end_of Least x = zero64
end_of Greatest x = x

pub record Looks (w : Which) (ps : List Float) (l : Look) : Type 0 where
  pub good : points_good ps ≡ true
  pub order : l.order ≡ order_of ps
  pub front : l.front ≡ end_of w (most_of Greatest ps)
  pub deepest : l.deepest ≡ end_of w (most_of Least ps)

abbrev pub Bored : List Float → Look → Type 0
Bored ps l = Looks Greatest ps l

-- the first k of a list are the samples at the own u of the first k points
abbrev pub HeldTo : Which → List Float → List Float → ℕ → Type 0
HeldTo w ps hs k = (i : ℕ) → i < k → sample_at w ps (u_at ps i) ≡ Some (get_or hs i nan)

-- and all of it
abbrev pub Held : Which → List Float → List Float → Type 0
Held w ps hs = HeldTo w ps hs (length hs)
