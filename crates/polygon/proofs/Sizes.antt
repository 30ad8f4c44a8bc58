-- How large the radii of a polygon's edges are, and that they are numbers: those of a polygon that is not refused are at most 2 ^ 20 in size, and what is read off its edges
-- at most 2 ^ 22. Assumes nothing.
use Rattle.std.specs.Prelude.{Option, None, Some}
use mathlib.Core.Path.{◌≡◌, refl, sym, subst}
use mathlib.Core.Bool.{Bool, true, false, not, ◌||◌}
use mathlib.Core.List.{List}
use Prim.Native.Nat.{ℕ, zero, suc, ◌+◌, ◌*◌, ◌/◌, ◌%◌, ◌≤◌, ◌<◌, zero-le}
use native.Mathlib.Nat.{mod-lt}
use native.Mathlib.Omega.{arith}
use lib.Dec.{T, ltb, lit<}
use lib.ListN.{length}
use lib.Ieee.{Float, binary64, emax, fits, neg, lt, le, eq, of_bits}
use lib.Ieee.Fits.{and_l, and_r}
use borrow.Author.Tests.{ltb-true, ltb-false}
use Rattle.floats.specs.Pick.{pick}
use Rattle.floats.specs.Numbers.{◌+₆₄◌, ◌-₆₄◌, ◌*₆₄◌, ◌/₆₄◌, million, least_of, greatest_of, clean_of, usable, usable_to, all_to}
use Rattle.floats.specs.Kinds.{Finite, Within}
use Rattle.floats.proofs.Order.{nlt→le}
use Rattle.floats.proofs.Lattice.{least-keeps, greatest-keeps, least-number, greatest-number}
use Rattle.floats.proofs.Cleared.{clean-keeps}
use Rattle.floats.proofs.Signed.{number-finite}
use Rattle.floats.proofs.Within.{finite-within, number-within, within-weaken, within-neg, sub_within, within_both, within-test, within-zero}
use Rattle.floats.proofs.Ratio.{ratio-of, part-within}
use Rattle.stock.specs.declared.TurnSide.{TurnSide}
use Rattle.stock.specs.declared.TurnSide.TheVariants.{Outer, Inner}
use Rattle.stock.specs.declared.ZRange.{ZRange}
use Rattle.stock.specs.Cell.{number_at}
use Rattle.stock.proofs.Bins.{HeldList}
use Rattle.reach.specs.Low.{lower_of}
use Rattle.reach.specs.Kinds.{SomeOf}
use Rattle.reach.proofs.Reaches.{lower-keeps, some-pick}
use Rattle.reach.specs.Reach.{flipped}
use Rattle.polygon.specs.declared.Point.{Point}
use Rattle.polygon.specs.declared.Span.{Span}
use Rattle.polygon.specs.Polygon.{height_at, point_at, along_of, edge_at, lowest_to, lowest_of, widened, extent_to, extent_of, inside, lows_to, lows_from}
use Rattle.polygon.proofs.First.{and_both}

-- ---- kinds of what may be missing

-- P holds of both ends, where there are some
abbrev pub EndsOf : (Float → Type 0) → Option Span → Type 0
EndsOf P None = Unit {0}
EndsOf P (Some e) = P e.lo × P e.hi

-- ---- an edge

-- a point's numbers are at most 2 ^ k in size
pub record PointWithin (k : ℕ) (p : Point) : Type 0 where
  pub z : Within binary64 k p.z
  pub r : Within binary64 k p.r

module _ {k : ℕ} (small : suc k < emax binary64) {p q : Point} (P : PointWithin k p) (Q : PointWithin k q) where
  less : (k e : ℕ) → suc k < e → k < e
  less k e h = omega arith

  more : (k : ℕ) → k ≤ suc (suc k)
  more k = omega arith

  -- a radius on an edge, at a z that is not beside it, is at most four times as large as the greater of its ends may be
  pub along-within : (z : Float) → Finite binary64 z → T (le (least_of p.z q.z) z) → T (le z (greatest_of p.z q.z)) → Within binary64 (suc (suc k)) (along_of p q z)
  unfolding along_of pick
  along-within z f l h = go (eq q.z p.z) (λ n. part-within (ratio-of (finite-within P.z) f (finite-within Q.z) (finite-within (sub_within Q.z P.z (less k (emax binary64) small))) l h n) P.r Q.r small)
    where
      part : Float
      part = p.r +₆₄ (z -₆₄ p.z) /₆₄ (q.z -₆₄ p.z) *₆₄ (q.r -₆₄ p.r)

      go : (t : Bool) → (T (not t) → Within binary64 (suc (suc k)) part) → Within binary64 (suc (suc k)) (pick t (least_of p.r q.r) part)
      go true g = within-weaken (more k) (least-keeps (Within binary64 k) P.r Q.r)
      go false g = g tt

  -- and so is what the edge has at any finite z
  pub edge-within : (z : Float) → Finite binary64 z → SomeOf (Within binary64 (suc (suc k))) (edge_at p q z)
  unfolding edge_at pick
  edge-within z f = go (lt z (least_of p.z q.z)) (lt (greatest_of p.z q.z) z) (λ t. nlt→le (least-number (number-within P.z) (number-within Q.z)) (number-finite f) t) (λ t. nlt→le (number-finite f) (greatest-number (number-within P.z) (number-within Q.z)) t)
    where
      go : (a b : Bool) → (T (not a) → T (le (least_of p.z q.z) z)) → (T (not b) → T (le z (greatest_of p.z q.z))) → SomeOf (Within binary64 (suc (suc k))) (pick (a || b) None (Some (along_of p q z)))
      go true b l h = tt
      go false true l h = tt
      go false false l h = along-within z f (l tt) (h tt)

-- ---- the points

-- a usable number is at most 2 ^ 20 in size
pub usable-within : (x : Float) → T (fits binary64 x) → usable x ≡ true → Within binary64 20 x
unfolding of_bits fits
usable-within x h e =
    let t : T (usable x) = subst T (sym e) tt in
    within_both (within-test binary64 20 million tt) h (and_l (le (neg million) x) (le x million) t) (and_r (le (neg million) x) (le x million) t)

-- reading -0.0 as +0.0 makes no number larger
pub clean-within : {k : ℕ} {x : Float} → Within binary64 k x → Within binary64 k (clean_of x)
clean-within {k} {x} w = clean-keeps (Within binary64 k) {x = x} (within-weaken zero-le (within-zero binary64)) w

-- each of the first n numbers is usable where all are
usable_at : (ps : List Float) (n k : ℕ) → k < n → usable_to ps n ≡ true → usable (number_at ps k) ≡ true
unfolding usable_to all_to
usable_at ps zero k h e = absurd (omega arith)
usable_at ps (suc n) k h e =
    let b = and_both (usable_to ps n) (usable (number_at ps n)) e in
    go (ltb k n) refl (λ l. usable_at ps n k l b.0) b.1
  where
    go : (t : Bool) → ltb k n ≡ t → (k < n → usable (number_at ps k) ≡ true) → usable (number_at ps n) ≡ true → usable (number_at ps k) ≡ true
    go true e f u = f (ltb-true k n e)
    go false e f u = let s : n ≡ k = (let l = ltb-false k n e in omega arith) in subst (λ (j : ℕ). usable (number_at ps j) ≡ true) s u

-- negation makes no radius larger
flipped-within : (side : TurnSide) {k : ℕ} {r : Float} → Within binary64 k r → Within binary64 k (flipped side r)
unfolding flipped
flipped-within Outer w = w
flipped-within Inner w = within-neg w

-- one z more leaves the ends of an extent as small
widen : (e : Option Span) (z : Float) → EndsOf (Within binary64 20) e → Within binary64 20 z → EndsOf (Within binary64 20) (Some (widened e z))
unfolding widened
widen None z p w = (w, w)
widen (Some e) z p w = (least-keeps (Within binary64 20) p.0 w, greatest-keeps (Within binary64 20) p.1 w)

module _ (ps : List Float) (held : HeldList ps) (good : usable_to ps (length ps) ≡ true) where
  number-at : (k : ℕ) → k < length ps → Within binary64 20 (clean_of (number_at ps k))
  number-at k h = clean-within (usable-within (number_at ps k) (held k) (usable_at ps (length ps) k h good))

  -- a point's z is at most 2 ^ 20 in size
  pub height-within : (i : ℕ) → i < length ps / 2 → Within binary64 20 (height_at ps i)
  unfolding height_at
  height-within i h = number-at (2 * i) (omega arith)

  -- and so is its radius
  pub point-within : (side : TurnSide) (i : ℕ) → i < length ps / 2 → PointWithin 20 (point_at ps side i)
  unfolding point_at
  point-within side i h = record { z = height-within i h; r = flipped-within side (number-at (2 * i + 1) (omega arith)) }

  -- ---- the lowest at z
  lowest-to : (side : TurnSide) (z : Float) → Finite binary64 z → (k : ℕ) → k ≤ length ps / 2 → SomeOf (Within binary64 22) (lowest_to ps side (length ps / 2) z k)
  unfolding lowest_to
  lowest-to side z f zero h = tt
  lowest-to side z f (suc i) h =
      let n = length ps / 2 in
      lower-keeps (Within binary64 22) (lowest_to ps side n z i) (edge_at (point_at ps side i) (point_at ps side ((i + 1) % n)) z)
      (lowest-to side z f i (omega arith))
      (edge-within (lit< tt) (point-within side i (omega arith)) (point-within side ((i + 1) % n) (mod-lt (i + 1) (omega arith))) z f)

  -- the lowest at a finite z is at most 2 ^ 22 in size
  pub lowest-within : (side : TurnSide) (z : Float) → Finite binary64 z → SomeOf (Within binary64 22) (lowest_of ps side z)
  unfolding lowest_of
  lowest-within side z f = lowest-to side (clean_of z) (clean-keeps (Finite binary64) {x = z} (finite-within (within-zero binary64)) f) (length ps / 2) (omega arith)

  -- ---- the lowest over a bin
  lows-to : (side : TurnSide) (b : ZRange) (start : Option Float) → SomeOf (Within binary64 22) start → (k : ℕ) → k ≤ length ps / 2 → SomeOf (Within binary64 22) (lows_to ps side b start k)
  unfolding lows_to
  lows-to side b start w zero h = w
  lows-to side b start w (suc i) h =
      let W = Within binary64 22 in
      let l = lows-to side b start w i (omega arith) in
      let z = height_at ps i in
      some-pick W (inside b z) (lower_of (lows_to ps side b start i) (lowest_of ps side z)) (lows_to ps side b start i)
      (lower-keeps W (lows_to ps side b start i) (lowest_of ps side z) l (lowest-within side z (finite-within (height-within i (omega arith))))) l

  -- the lowest over a bin is, where that at its ends is
  pub lows-within : (side : TurnSide) (b : ZRange) (start : Option Float) → SomeOf (Within binary64 22) start → SomeOf (Within binary64 22) (lows_from ps side b start)
  unfolding lows_from
  lows-within side b start w = lows-to side b start w (length ps / 2) (omega arith)

  -- ---- the extent
  extent-to : (k : ℕ) → k ≤ length ps / 2 → EndsOf (Within binary64 20) (extent_to ps k)
  unfolding extent_to
  extent-to zero h = tt
  extent-to (suc i) h = widen (extent_to ps i) (height_at ps i) (extent-to i (omega arith)) (height-within i (omega arith))

  -- the least and the greatest z are at most 2 ^ 20 in size
  pub extent-within : EndsOf (Within binary64 20) (extent_of ps)
  unfolding extent_of
  extent-within = extent-to (length ps / 2) (omega arith)
