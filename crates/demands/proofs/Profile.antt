-- Narrow look, full look, of the calls: whatever outcome meets the promise of `envelope::radius_at`, of `radius_range`, or of the method of that name of an `Envelope` made by `new`, it is refused exactly where the points or
-- the query are outside the domain, and else it is the look at all segments in order (`full_there`, `full_range`; for a range where lo <= hi), though the calls look at a part alone. The numbers lent are values of f64. Assumes nothing.
use Rattle.std.specs.Prelude.{Option, None, Some, Result}
use mathlib.Core.Path.{◌≡◌, refl, sym, ap, subst, ◌∙◌}
use mathlib.Core.Bool.{true, false, ◌&&◌}
use mathlib.Core.List.{List, [], ◌∷◌}
use lib.Dec.{T}
use lib.Ieee
use lib.IntN.{pos}
use lib.Ieee.{Float, nan, inf, binary64, of_bits, fits, neg, le}
use denote.Ref.{Bor}
use Rattle.refusals.specs.declared.Refusal.{Refusal}
use Rattle.refusals.specs.Number.{paper_of}
use Rattle.refusals.specs.Paper.{Paper, answers, refuses, only, demand, demand-true}
use Rattle.floats.specs.Pick.{pick, pick_true, pick-false}
use Rattle.floats.specs.Numbers.{zero64, million, least_of, greatest_of, minus_zero, clean_of, usable, usable_to, all_to}
use Rattle.stock.proofs.Bins.{HeldList}
use Rattle.envelope.specs.declared.held.Envelope.{Envelope}
use Rattle.envelope.specs.declared.Radii.{Radii}
use Rattle.envelope.specs.Envelope.{u_at, v_at, points_good, rises_to, falls_to, order_of, count_to, span, span_of, wider, across, segment_at, higher, highest_to, radius_at_of, taken, segment_over, segment_in, radii_to, radii_of, radius_range_of}
use Rattle.envelope.specs.Halving.{kept_of, RadiusAtKept, RadiusRangeKept}
use Rattle.envelope.specs.Full.{points_of, neighbours, segments_of, full_there, full_range}
use Rattle.envelope.proofs.Steps.{clean-le}
use Rattle.envelope.proofs.Rules.{full_at, full-range}
use Rattle.demands.specs.Refused.{Asked, AllHold, Exactly, radius_asks, within_asks}
use Rattle.demands.proofs.First.{radius-at-exactly, radius-range-exactly}

-- an outcome that is refused exactly as the tests say, and where they all hold answers x
pub record Settled {A : Type 0} (p : Paper A) (l : List Asked) (x : A) : Type 0 where
  pub exactly : Exactly p l
  pub answer : AllHold l → p ≡ answers x

-- an outcome that follows a rule is settled as the rule is
follows : {A : Type 0} {p q : Paper A} {l : List Asked} {x : A} → p ≡ q → Exactly q l → (AllHold l → q ≡ answers x) → Settled p l x
follows {l = l} e h a = record { exactly = subst (λ r. Exactly r l) (sym e) h; answer = λ s. e ∙ a s }

-- an envelope that `new` made of the lent points
abbrev pub MadeOf : Bor (List Float) → Envelope → Type 0
MadeOf ps e = (e.points ≡ ps) × (e.order ≡ kept_of ps.now)

-- ---- the highest radius at u

module _ (u : Float) (hu : T (fits binary64 u)) (r : Result (Option Float) Refusal) where
  -- `radius_at`
  pub radius-at-full : (ps : List Float) → HeldList ps → paper_of r ≡ radius_at_of ps u → Settled (paper_of r) (radius_asks ps u) (full_there ps (clean_of u))
  radius-at-full ps held e = follows e (radius-at-exactly ps u) (λ s. full_at ps held u hu ∙ demand-true (points_good ps && usable u) 14 _ s.0)

  -- the method of an envelope
  pub held-at-full : (ps : Bor (List Float)) → HeldList ps.now → (e : Envelope) → MadeOf ps e → RadiusAtKept e.points.now e.order u r
      → Settled (paper_of r) (radius_asks ps.now u) (full_there ps.now (clean_of u))
  held-at-full ps held e m k = radius-at-full ps.now held (subst (λ (qs : Bor (List Float)). paper_of r ≡ radius_at_of qs.now u) m.0 (k.ruled (m.1 ∙ ap (λ (qs : Bor (List Float)). kept_of qs.now) (sym m.0))))

-- ---- the lowest and the highest radius over lo..hi, where lo <= hi

module _ (lo hi : Float) (hlo : T (fits binary64 lo)) (hhi : T (fits binary64 hi)) (r : Result (Option Radii) Refusal) where
  -- what it answers whichever of the two is greater
  either_way : (ps : List Float) → HeldList ps → AllHold (within_asks ps lo hi) → radius_range_of ps lo hi ≡ answers (pick (le lo hi) (full_range ps (clean_of lo) (clean_of hi)) None)
  either_way ps held s =
      full-range ps held lo hi hlo hhi ∙ demand-true (points_good ps && (usable lo && usable hi)) 14 _ s.0 ∙ ap (λ b. answers (pick b (full_range ps (clean_of lo) (clean_of hi)) None)) (clean-le lo hi hlo hhi)

  -- `radius_range`
  pub radius-range-full : le lo hi ≡ true → (ps : List Float) → HeldList ps → paper_of r ≡ radius_range_of ps lo hi → Settled (paper_of r) (within_asks ps lo hi) (full_range ps (clean_of lo) (clean_of hi))
  radius-range-full h ps held e = follows e (radius-range-exactly ps lo hi) (λ s. either_way ps held s ∙ ap answers (pick_true (le lo hi) _ _ h))

  -- where lo > hi, of which the full look says nothing: none
  pub radius-range-turned : le lo hi ≡ false → (ps : List Float) → HeldList ps → paper_of r ≡ radius_range_of ps lo hi → Settled (paper_of r) (within_asks ps lo hi) None
  radius-range-turned h ps held e = follows e (radius-range-exactly ps lo hi) (λ s. either_way ps held s ∙ ap answers (pick-false (le lo hi) _ _ h))

  -- the method of an envelope
  pub held-range-full : le lo hi ≡ true → (ps : Bor (List Float)) → HeldList ps.now → (e : Envelope) → MadeOf ps e → RadiusRangeKept e.points.now e.order lo hi r
      → Settled (paper_of r) (within_asks ps.now lo hi) (full_range ps.now (clean_of lo) (clean_of hi))
  held-range-full h ps held e m k = radius-range-full h ps.now held (subst (λ (qs : Bor (List Float)). paper_of r ≡ radius_range_of qs.now lo hi) m.0 (k.ruled (m.1 ∙ ap (λ (qs : Bor (List Float)). kept_of qs.now) (sym m.0))))

-- ---- where there is no segment
-- no points
pub no-points : (u lo hi : Float) → (full_there [] u ≡ None) × (full_range [] lo hi ≡ None)
unfolding full_there full_range segments_of neighbours points_of
no-points u lo hi = (refl, refl)

-- one point
pub one-point : (a v u lo hi : Float) → (full_there (a ∷ v ∷ []) u ≡ None) × (full_range (a ∷ v ∷ []) lo hi ≡ None)
unfolding full_there full_range segments_of neighbours points_of
one-point a v u lo hi = (refl, refl)

-- ---- corners, computed: what the rule finds over the part, and the full look
abbrev minus_one : Float
minus_one = of_bits binary64 0xBFF0000000000000

abbrev minus-zero : Float
minus-zero = of_bits binary64 0x8000000000000000

abbrev least : Float
least = of_bits binary64 0x0000000000000001

abbrev one : Float
one = of_bits binary64 0x3FF0000000000000

abbrev two : Float
two = of_bits binary64 0x4000000000000000

abbrev three : Float
three = of_bits binary64 0x4008000000000000

abbrev four : Float
four = of_bits binary64 0x4010000000000000

abbrev five : Float
five = of_bits binary64 0x4014000000000000

-- points (0, 1), (2, 3), (4, 1)
abbrev peak : List Float
peak = zero64 ∷ one ∷ two ∷ three ∷ four ∷ one ∷ []

-- the same from its end on, so that u falls
abbrev falling : List Float
falling = four ∷ one ∷ two ∷ three ∷ zero64 ∷ one ∷ []

-- an upright step at 2: (0, 1), (2, 3), (2, 5), (4, 5)
abbrev stepped : List Float
stepped = zero64 ∷ one ∷ two ∷ three ∷ two ∷ five ∷ four ∷ five ∷ []

-- upright segments only: (2, 3), (2, 5), (2, 1)
abbrev upright : List Float
upright = two ∷ three ∷ two ∷ five ∷ two ∷ one ∷ []

-- in no order, the second segment runs back: (0, 1), (2, 1), (0, 3)
abbrev back : List Float
back = zero64 ∷ one ∷ two ∷ one ∷ zero64 ∷ three ∷ []

-- u at -0.0 and at the least number above 0: (-0.0, -0.0), (least, 2)
abbrev short : List Float
short = minus-zero ∷ minus-zero ∷ least ∷ two ∷ []

-- from -1e6 to 1e6: (-1e6, 1), (1e6, 3)
abbrev long : List Float
long = neg million ∷ one ∷ million ∷ three ∷ []

-- the highest radius at u, narrow and full
abbrev At : List Float → Float → Option Float → Type 0
At ps u x = (radius_at_of ps u ≡ answers x) × (full_there ps (clean_of u) ≡ x)

-- the lowest and the highest radius over lo..hi, narrow and full
abbrev Over : List Float → Float → Float → Option Radii → Type 0
Over ps lo hi x = (radius_range_of ps lo hi ≡ answers x) × (full_range ps (clean_of lo) (clean_of hi) ≡ x)

abbrev from : Float → Float → Option Radii
from a b = Some (record { lowest = a; highest = b })

-- between two points: no point is in the part, and the two beside it make the segment that matters
abbrev Between : Type 0
Between = (span_of peak three three ≡ span 2 2) × (wider (span_of peak three three) 3 ≡ span 1 3) × At peak three (Some two) × Over peak three three (from two two)

-- a query wholly left or wholly right of the points, of chains that rise, that fall and that do neither
abbrev Beside : Type 0
Beside = At peak minus_one None × At peak five None × At falling minus_one None × At falling five None × Over peak minus_one minus_one None × Over falling five five None × Over back three four None

-- lo = hi at the end that two segments share, and at the first and the last point
abbrev AtEnds : Type 0
AtEnds = At peak two (Some three) × Over peak two two (from three three) × Over falling two two (from three three) × Over peak zero64 zero64 (from one one) × At falling zero64 (Some one)

-- u repeated at lo, at hi, and everywhere
abbrev Repeated : Type 0
Repeated = (order_of upright ≡ pos 1) × At stepped two (Some five) × Over stepped two three (from three five) × Over stepped one two (from two five) × At upright two (Some five) × At upright one None × Over upright one two (from one five)

-- NaN and infinity, as a query and as a point, and a number left over: 14
abbrev Outside : Type 0
Outside = (radius_at_of peak nan ≡ refuses (only 14)) × (radius_range_of peak zero64 (inf false) ≡ refuses (only 14)) × (radius_at_of (inf true ∷ one ∷ []) one ≡ refuses (only 14)) × (radius_range_of (one ∷ []) one one ≡ refuses (only 14))

-- in no order every segment counts, one that runs back too
abbrev InNoOrder : Type 0
InNoOrder = At back one (Some two) × Over back one one (from one two) × At back zero64 (Some three)

-- -0.0 as u, v, lo and hi; a subnormal u; u at -1e6 and at 1e6
abbrev Edges : Type 0
Edges = At short minus-zero (Some zero64) × Over short minus-zero minus-zero (from zero64 zero64) × At short least (Some two) × Over short minus-zero least (from zero64 two) × At long zero64 (Some two) × Over long (neg million) million (from one three) × At long million (Some three)

pub corners : Between × Beside × AtEnds × Repeated × InNoOrder × Edges × Outside
unfolding radius_at_of radius_range_of radii_of demand points_good usable_to all_to clean_of pick span_of order_of rises_to falls_to count_to u_at v_at highest_to radii_to segment_at segment_in segment_over taken higher across least_of greatest_of minus_zero full_there full_range segments_of neighbours points_of Ieee.of_bits Ieee.of_fields Ieee.odd Ieee.eq Ieee.lt Ieee.le Ieee.div Ieee.mul Ieee.sub Ieee.add Ieee.neg Ieee.sum Ieee.round Ieee.units Ieee.size Ieee.span Ieee.climb Ieee.fits
corners = (
  (refl, refl, (refl, refl), (refl, refl)),
  ((refl, refl), (refl, refl), (refl, refl), (refl, refl), (refl, refl), (refl, refl), (refl, refl)),
  ((refl, refl), (refl, refl), (refl, refl), (refl, refl), (refl, refl)),
  (refl, (refl, refl), (refl, refl), (refl, refl), (refl, refl), (refl, refl), (refl, refl)),
  ((refl, refl), (refl, refl), (refl, refl)),
  ((refl, refl), (refl, refl), (refl, refl), (refl, refl), (refl, refl), (refl, refl), (refl, refl)),
  (refl, refl, refl, refl),
)
