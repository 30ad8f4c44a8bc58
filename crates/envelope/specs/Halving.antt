-- The way of the code, over points and an order's number that is kept beside them: the part is found by halving. Where the number is that of the points this is what
-- the rules of `Envelope` say (proofs/Kept.antt). Assumes nothing.
use Rattle.std.specs.Prelude.{◌≡◌, Bool, true, false, not, ◌&&◌, List, ℕ, zero, suc, ◌+◌, ◌/◌, ◌-◌, ltb, leb, eqb, length, ℤ, pos, negsuc, Float, Option, None, Some, Result}
use Rattle.std.specs.Float.Ieee.{le, lt}
use Rattle.refusals.specs.Number.{paper_of}
use Rattle.refusals.specs.declared.Refusal.{Refusal}
use Rattle.floats.specs.Pick.{pick}
use Rattle.floats.specs.Numbers.{clean_of, usable, usable_to}
use Rattle.refusals.specs.Paper.{Paper, answers, demand}
use Rattle.envelope.specs.declared.Span.{Span}
use Rattle.envelope.specs.declared.Radii.{Radii}
use Rattle.envelope.specs.declared.Test.{Test}
use Rattle.envelope.specs.declared.Test.TheVariants.{Below, AtMost, Above, AtLeast}
use Rattle.envelope.specs.declared.segments.Found.{Found}
use Rattle.envelope.specs.declared.Scanned.{Scanned}
use Rattle.envelope.specs.Envelope.{count, u_at, points_good, rises, falls, order_of, ordered_of, passes, span, all_points, span_of, within_of, part_numbers, wider, highest_in, highest_at, radius_at_of, radii_in, radius_range_of}

-- what one pass over the points finds
abbrev pub scan_of : List Float → Scanned
scan_of ps = record { good = usable_to ps (length ps); rises = rises ps; falls = falls ps }

-- ---- halving
-- where the points from a to b stop to pass: the middle one says which half; at most k times
unfoldable pub halve : List Float → Test → Float → ℕ → ℕ → ℕ → ℕ
halve ps t x zero a b = a
halve ps t x (suc k) a b =
    pick (ltb a b)
    (pick (passes t (u_at ps (a + (b - a) / 2)) x) (halve ps t x k (a + (b - a) / 2 + 1) b) (halve ps t x k a (a + (b - a) / 2)))
    a

-- where all points stop to pass
unfoldable pub split_of : List Float → Test → Float → ℕ
split_of ps t x = halve ps t x (count ps) 0 (count ps)

-- ---- the order's number that is kept beside the points
unfoldable pub is_z : ℤ → ℤ → Bool
is_z (pos a) (pos b) = eqb a b
is_z (pos a) (negsuc b) = false
is_z (negsuc a) (pos b) = false
is_z (negsuc a) (negsuc b) = eqb a b

-- the points' order; 2 where the points are refused
unfoldable pub kept_of : List Float → ℤ
kept_of ps = pick (points_good ps) (order_of ps) (pos 2)

-- the number is not that of refused points
abbrev pub accepted : ℤ → Bool
accepted z = not (is_z z (pos 2))

-- what is found over points and a number: what the way of the code says of the two, and where the number is that of the points, what the rule says of them
pub record Kept {A : Type 0} (ps : List Float) (z : ℤ) (r way rule : A) : Type 0 where
  pub found : r ≡ way
  pub ruled : z ≡ kept_of ps → r ≡ rule

-- the same of a part of a rule, which asks nothing of the points: where they are accepted and the number is their order, what the rule says
pub record Ruled {A : Type 0} (ps : List Float) (z : ℤ) (r way rule : A) : Type 0 where
  pub found : r ≡ way
  pub ruled : points_good ps ≡ true → z ≡ order_of ps → r ≡ rule

-- the order that is kept
unfoldable pub kept_order : ℤ → Paper ℤ
kept_order z = demand (accepted z) 14 (answers z)

-- what the order's promise says
abbrev pub OrderKept : List Float → ℤ → (Result ℤ Refusal) → Type 0
OrderKept ps z r = Kept ps z (paper_of r) (kept_order z) (ordered_of ps)

-- ---- the part between two bounds
unfoldable pub halved_span : List Float → ℤ → Float → Float → Span
halved_span ps z lo hi =
    pick (is_z z (pos 1)) (span (split_of ps Below lo) (split_of ps AtMost hi))
    (pick (is_z z (negsuc 0)) (span (split_of ps Above hi) (split_of ps AtLeast lo)) (all_points ps))

-- what the span's promise says
abbrev pub SpanOver : List Float → ℤ → Float → Float → Span → Type 0
SpanOver ps z lo hi r = Ruled ps z r (halved_span ps z lo hi) (span_of ps lo hi)

-- nothing where the span is turned about
unfoldable pub straight : Span → Span
straight s = pick (leb s.start s.end) s (span 0 0)

unfoldable pub halved_part : List Float → ℤ → Float → Float → Span
halved_part ps z lo hi = pick (le lo hi) (straight (halved_span ps z lo hi)) (span 0 0)

unfoldable pub kept_within : List Float → ℤ → Float → Float → Paper Span
kept_within ps z lo hi = demand (accepted z && (usable lo && usable hi)) 14 (answers (halved_part ps z (clean_of lo) (clean_of hi)))

-- what the part's promise says: where it stands, and its numbers
abbrev pub SpanKept : List Float → ℤ → Float → Float → (Result Span Refusal) → Type 0
SpanKept ps z lo hi r = Kept ps z (paper_of r) (kept_within ps z lo hi) (within_of ps lo hi)

abbrev pub WithinKept : List Float → ℤ → Float → Float → List Float → Type 0
WithinKept ps z lo hi r = Kept ps z r (part_numbers ps (kept_within ps z lo hi)) (part_numbers ps (within_of ps lo hi))

unfoldable pub halved_at : List Float → ℤ → Float → Option Float
halved_at ps z u = highest_in ps (wider (halved_span ps z u u) (count ps)) u

-- what the radius's promise says
abbrev pub Highest : List Float → ℤ → Float → (Option Float) → Type 0
Highest ps z u r = Ruled ps z (r) (halved_at ps z u) (highest_at ps u)

unfoldable pub kept_at : List Float → ℤ → Float → Paper (Option Float)
kept_at ps z u = demand (accepted z && usable u) 14 (answers (halved_at ps z (clean_of u)))

-- what the highest radius's promise says
abbrev pub RadiusAtKept : List Float → ℤ → Float → (Result (Option Float) Refusal) → Type 0
RadiusAtKept ps z u r = Kept ps z (paper_of r) (kept_at ps z u) (radius_at_of ps u)

-- both lent u's lie before lo, or both behind hi
unfoldable pub aside : Float → Float → Float → Float → Bool
aside x y lo hi = pick (lt x lo) (lt y lo) (pick (lt hi x) (lt hi y) false)

-- the radii found so far
unfoldable pub found_radii : Found → Option Radii
found_radii r = pick (eqb r.many 0) None (Some (record { lowest = r.lowest; highest = r.highest }))

unfoldable pub halved_radii : List Float → ℤ → Float → Float → Option Radii
halved_radii ps z lo hi = pick (le lo hi) (radii_in ps (wider (halved_span ps z lo hi) (count ps)) lo hi) None

unfoldable pub kept_range : List Float → ℤ → Float → Float → Paper (Option Radii)
kept_range ps z lo hi = demand (accepted z && (usable lo && usable hi)) 14 (answers (halved_radii ps z (clean_of lo) (clean_of hi)))

-- what the two radii's promise says
abbrev pub RadiusRangeKept : List Float → ℤ → Float → Float → (Result (Option Radii) Refusal) → Type 0
RadiusRangeKept ps z lo hi r = Kept ps z (paper_of r) (kept_range ps z lo hi) (radius_range_of ps lo hi)
