-- What is read of a list of segments, and what is known of segments that are not refused. Assumes nothing.
use mathlib.Core.Path.{◌≡◌, sym, ap, subst}
use mathlib.Core.Bool.{true, ◌&&◌}
use mathlib.Core.List.{List}
use Prim.Native.Nat.{ℕ, zero, suc, ◌+◌, ◌*◌, ◌≤◌, ◌<◌}
use native.Mathlib.Decide.{dec_lt}
use native.Mathlib.Numerals.{add-one}
use native.Mathlib.Omega.{arith}
use lib.Dec.{T, eqb, leb, eqb→eq, leb→le}
use lib.ListN.{length, get_or-eq_default}
use lib.Ieee.{Float, nan, binary64, fits, neg, eq, lt, le, of_bits}
use lib.Ieee.Fits.{and_l, and_r}
use Rattle.refusals.specs.Limits.{segment_limit}
use Rattle.floats.specs.Pick.{pick}
use Rattle.floats.specs.Numbers.{zero64, clean_of, usable}
use Rattle.floats.specs.Kinds.{Within}
use Rattle.floats.proofs.Cleared.{clean-keeps}
use Rattle.floats.proofs.Within.{within-neg}
use Rattle.stock.specs.declared.TurnSide.{TurnSide}
use Rattle.stock.specs.declared.TurnSide.TheVariants.{Outer, Inner}
use Rattle.stock.specs.Cell.{number_at}
use Rattle.stock.proofs.Bins.{Sized, HeldList, clean-sized}
use Rattle.reach.specs.Reach.{flipped}
use Rattle.nose.specs.declared.Point.{Point}
use Rattle.nose.specs.declared.Segment.{Segment}
use Rattle.nose.specs.Nose.{clean_at, segment_at, no_segment, segment_count, segment_good, good_to, segments_good}

-- past the end of a list there is no number
pub past_end : (xs : List Float) (k : ℕ) → length xs ≤ k → clean_at xs k ≡ nan
unfolding clean_at clean_of pick eq
past_end xs k h = ap clean_of (get_or-eq_default xs nan h)

-- and no segment
pub no-segment : (xs : List Float) (k : ℕ) (side : TurnSide) → length xs ≤ 5 * k → segment_at xs k side ≡ no_segment
unfolding segment_at flipped neg
no-segment xs k side h =
    let a : length xs ≤ 5 * k + 1 = omega arith in
    let b : length xs ≤ 5 * k + 2 = omega arith in
    let c : length xs ≤ 5 * k + 3 = omega arith in
    let d : length xs ≤ 5 * k + 4 = omega arith in
    go side (past_end xs (5 * k) h) (past_end xs (5 * k + 1) a) (past_end xs (5 * k + 2) b) (past_end xs (5 * k + 3) c) (past_end xs (5 * k + 4) d)
  where
    go : (side : TurnSide) → clean_at xs (5 * k) ≡ nan → clean_at xs (5 * k + 1) ≡ nan → clean_at xs (5 * k + 2) ≡ nan → clean_at xs (5 * k + 3) ≡ nan → clean_at xs (5 * k + 4) ≡ nan → segment_at xs k side ≡ no_segment
    go Outer p q r s t = simp (p, q, r, s, t)
    go Inner p q r s t = simp (p, q, r, s, t)

-- one segment more is good
pub good_more : (xs : List Float) (k : ℕ) → good_to xs (k + 1) ≡ (good_to xs k && segment_good xs (5 * k))
unfolding good_to
good_more xs k = rw (add-one k)

-- ---- segments that are not refused
-- a point, its numbers at most 2 ^ 20 in size
pub record PointWithin (p : Point) : Type 0 where
  pub r : Within binary64 20 p.r
  pub z : Within binary64 20 p.z

-- a segment, its numbers at most 2 ^ 20 in size
pub record SegmentWithin (s : Segment) : Type 0 where
  pub a : PointWithin s.a
  pub b : PointWithin s.b
  pub sag : Within binary64 20 s.sag

-- a usable number, with -0.0 read as +0.0
usable-sized : (x : Float) → T (fits binary64 x) → T (usable x) → Sized 20 (clean_of x)
unfolding of_bits le lt eq neg
usable-sized x f h = clean-sized x f (clean-keeps (λ (y : Float). T (usable y)) tt h)

-- a radius of either side keeps its size
flip-within : (side : TurnSide) {x : Float} → Within binary64 20 x → Within binary64 20 (flipped side x)
unfolding flipped
flip-within Outer w = w
flip-within Inner w = within-neg w

-- each of the first m segments is good where all are
good-at : (xs : List Float) (m k : ℕ) → T (good_to xs m) → k < m → T (segment_good xs (5 * k))
unfolding good_to
good-at xs zero k t h = absurd (omega arith)
good-at xs (suc m) k t h = go (dec_lt k m) (good-at xs m k (and_l (good_to xs m) (segment_good xs (5 * m)) t))
  where
    go : Dec (k < m) → (k < m → T (segment_good xs (5 * k))) → T (segment_good xs (5 * k))
    go (yes l) f = f l
    go (no l) f = let e : m ≡ k = omega arith in subst (λ (j : ℕ). T (segment_good xs (5 * j))) e (and_r (good_to xs m) (segment_good xs (5 * m)) t)

-- a good segment's numbers are at most 2 ^ 20 in size
segment-sized : (xs : List Float) (k : ℕ) (side : TurnSide) → HeldList xs → T (segment_good xs (5 * k)) → SegmentWithin (segment_at xs k side)
unfolding segment_at clean_at segment_good
segment-sized xs k side held t =
    let at = 5 * k in
    let p = usable (number_at xs at) in
    let q = usable (number_at xs (at + 1)) in
    let r = usable (number_at xs (at + 2)) in
    let s = usable (number_at xs (at + 3)) in
    let u = usable (number_at xs (at + 4)) in
    let t5 = and_l (p && q && r && s && u) (le zero64 (number_at xs (at + 4))) t in
    let t4 = and_l (p && q && r && s) u t5 in
    let t3 = and_l (p && q && r) s t4 in
    let t2 = and_l (p && q) r t3 in
    record {
      a = record { r = flip-within side (number at (and_l p q t2)); z = number (at + 1) (and_r p q t2) };
      b = record { r = flip-within side (number (at + 2) (and_r (p && q) r t3)); z = number (at + 3) (and_r (p && q && r) s t4) };
      sag = number (at + 4) (and_r (p && q && r && s) u t5);
    }
  where
    number : (j : ℕ) → T (usable (number_at xs j)) → Within binary64 20 (clean_of (number_at xs j))
    number j h = (usable-sized (number_at xs j) (held j) h).within

-- what is known of a radius and segments that are not refused
pub record Accepted (rn : Float) (xs : List Float) : Type 0 where
  pub radius : Sized 20 (clean_of rn)
  pub whole : 5 * segment_count xs ≡ length xs
  pub few : segment_count xs ≤ segment_limit
  pub segments : (k : ℕ) → k < segment_count xs → (side : TurnSide) → SegmentWithin (segment_at xs k side)

-- what refusal 5 asks of them
pub accepted : (rn : Float) (xs : List Float) → T (fits binary64 rn) → HeldList xs → segments_good rn xs ≡ true → Accepted rn xs
unfolding segments_good
accepted rn xs f held good =
    let p = eqb (5 * segment_count xs) (length xs) in
    let q = leb (segment_count xs) segment_limit in
    let r = usable rn in
    let s = le zero64 rn in
    let u = good_to xs (segment_count xs) in
    let t : T (p && q && (r && s && u)) = subst T (sym good) tt in
    let t2 = and_l (p && q) (r && s && u) t in
    let t3 = and_r (p && q) (r && s && u) t in
    let e = eqb→eq (5 * segment_count xs) (length xs) (and_l p q t2) in
    record {
      radius = usable-sized rn f (and_l r s (and_l (r && s) u t3));
      whole = e;
      few = leb→le (segment_count xs) segment_limit (and_r p q t2);
      segments = λ k h side. segment-sized xs k side held (good-at xs (segment_count xs) k (and_r (r && s) u t3) h);
    }
