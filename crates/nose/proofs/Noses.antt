-- In 01's domain what a nose reaches is finite and not -0.0, in every bin: an accepted preview commits. Assumes nothing.
use Rattle.std.specs.Prelude.{Option, None, Some}
use mathlib.Core.Path.{◌≡◌, refl}
use mathlib.Core.Bool.{Bool, true, false, ◌&&◌}
use mathlib.Core.List.{List}
use Prim.Native.Nat.{ℕ, zero, suc, ◌+◌, ◌*◌, ◌≤◌, ◌<◌}
use native.Mathlib.Nat.{le_refl}
use native.Mathlib.Omega.{arith}
use lib.Dec.{T, lit<, lit≤}
use lib.Ieee.{Float, binary64, of_bits, le, lt, ne, neg, fits}
use lib.Ieee.Fits.{and_l, and_r, div-fits}
use Rattle.refusals.specs.Paper.{Paper, answers, refuses}
use Rattle.floats.specs.Pick.{pick}
use Rattle.floats.specs.Numbers.{◌+₆₄◌, ◌-₆₄◌, ◌*₆₄◌, ◌/₆₄◌, zero64, one64, least_of, greatest_of, size_of, clean_of}
use Rattle.floats.specs.Kinds.{Plain, Finite, Within}
use Rattle.floats.proofs.Signed.{zero+}
use Rattle.floats.proofs.Within.{finite-within, within-weaken, within-least, within-neg, within-sub, within-add, within-mul}
use Rattle.floats.proofs.Ratio.{gap_within, part-within}
use Rattle.numbers.specs.Root.{root_of}
use Rattle.numbers.specs.Length.{length_of}
use Rattle.numbers.proofs.Sizes.{root-bounded}
use Rattle.numbers.proofs.Lengths.{second-over}
use Rattle.stock.specs.declared.TurnStockSpec.{TurnStockSpec}
use Rattle.stock.specs.declared.TurnSide.{TurnSide}
use Rattle.stock.specs.declared.ZRange.{ZRange}
use Rattle.stock.specs.Spec.{clean_spec}
use Rattle.stock.specs.Bin.{bin_of}
use Rattle.stock.proofs.Count.{Checked}
use Rattle.stock.proofs.Bins.{Sized, HeldSpec, HeldList, BinSized, bin-within, bin_bits}
use Rattle.reach.specs.declared.Swept.{Swept}
use Rattle.reach.specs.Low.{lower_of, upper_of}
use Rattle.nose.specs.declared.Point.{Point}
use Rattle.nose.specs.declared.Segment.{Segment}
use Rattle.nose.specs.Capsule.{pt, less_root, end_at, facing, normal_by, normal_of, shifted, line_at, on_line, side_at, capsule_min_r, least_point, capsule_lowest}
use Rattle.nose.specs.Nose.{segment_at, segment_count, segments_good, in_bin, low_with, high_with, with_segment, nose_to, nose_reach, nose_act}
use Rattle.reach.specs.Kinds.{SomeOf, ReachOf}
use Rattle.reach.proofs.Reaches.{lower-keeps, upper-keeps, some-pick, reach-map, reach-sized}
use Rattle.nose.proofs.Segments.{PointWithin, SegmentWithin, accepted}

-- at most 2 ^ k in size
abbrev W : ℕ → Float → Type 0
W = Within binary64

-- where a test holds there is a radius
if_some : (P : Float → Type 0) (t : Bool) (a : Option Float) → (T t → SomeOf P a) → SomeOf P (pick t a None)
unfolding pick
if_some P true a h = h tt
if_some P false a h = tt

-- one of two that a test picks
of_two : {A : Type 0} (P : A → Type 0) (t : Bool) (a b : A) → P a → P b → P (pick t a b)
unfolding pick
of_two P true a b u v = u
of_two P false a b u v = v

-- ---- a capsule of at most 2 ^ 21, about points of at most 2 ^ 20
-- how far a line of a bin is from a point, and what a capsule reaches on it, are at most 2 ^ 37 and 2 ^ 39 in size
abbrev apart_bits : ℕ
apart_bits = bin_bits + 1

abbrev pub reach_bits : ℕ
reach_bits = bin_bits + 3

-- the circle about an end, on a line of a bin
end-within : (p : Point) (rn c : Float) → PointWithin p → W 21 rn → W bin_bits c → SomeOf (W reach_bits) (end_at p rn c)
unfolding end_at of_bits
end-within p rn c w R C =
    let dz = p.z -₆₄ c in
    let D : W apart_bits dz = within-sub w.z C (lit< tt) in
    let g = greatest_of (rn *₆₄ rn -₆₄ dz *₆₄ dz) zero+ in
    let G : W (2 * apart_bits + 1) g = gap_within (within-weaken (lit≤ tt) R) D (lit< tt) in
    if_some (W reach_bits) (le (size_of dz) rn) (less_root p.r (root_of g)) (λ t. less p.r g w.r G (root_of g) refl)
  where
    less : (r g : Float) → W 20 r → W (2 * apart_bits + 1) g → (q : Paper Float) → root_of g ≡ q → SomeOf (W reach_bits) (less_root r q)
    less r g R G (refuses n) e = tt
    less r g R G (answers x) e = within-weaken (lit≤ tt) (within-sub R (root-bounded (bin_bits + 2) g x (unfold fits in tt) (within-weaken (lit≤ tt) G) e) (lit< tt))

-- the line between two points, the ends of which are at most 2 ^ 37
line-within : (p q : Point) (c : Float) → W apart_bits p.r → W apart_bits q.r → SomeOf (W reach_bits) (line_at p q c)
unfolding line_at of_bits
line-within p q c P Q =
    let t = (c -₆₄ p.z) /₆₄ (q.z -₆₄ p.z) in
    some-pick (W reach_bits) (ne q.z p.z)
    (pick (le zero64 t && le t one64) (Some (p.r +₆₄ t *₆₄ (q.r -₆₄ p.r))) None)
    (pick (le (size_of (p.z -₆₄ c)) on_line) (Some (least_of p.r q.r)) None)
    (if_some (W reach_bits) (le zero64 t && le t one64) (Some (p.r +₆₄ t *₆₄ (q.r -₆₄ p.r))) (λ h. part-within (record { held = div-fits binary64 (c -₆₄ p.z) (q.z -₆₄ p.z); low = and_l (le zero64 t) (le t one64) h; high = and_r (le zero64 t) (le t one64) h }) P Q (lit< tt)))
    (if_some (W reach_bits) (le (size_of (p.z -₆₄ c)) on_line) (Some (least_of p.r q.r)) (λ h. within-weaken (lit≤ tt) (within-least P Q)))

-- the radial part of a normal, where there is one
abbrev NormalWithin : Option Point → Type 0
NormalWithin None = Unit {0}
NormalWithin (Some n) = W 0 n.r

-- a normal that is turned keeps its size
facing-within : (n : Point) → W 0 n.r → W 0 (facing n).r
unfolding facing
facing-within n w = of_two (λ (m : Point). W 0 m.r) _ (pt (neg n.r) (neg n.z)) n (within-neg w) w

-- a normal is at most 1 in size: each part is at most the length
normal-within : (a b : Point) → PointWithin a → PointWithin b → NormalWithin (normal_of a b)
unfolding normal_of of_bits pick
normal-within a b wa wb =
    let dr = b.r -₆₄ a.r in
    let dz = b.z -₆₄ a.z in
    go dr dz (within-sub wb.r wa.r (lit< tt)) (within-sub wb.z wa.z (lit< tt)) (length_of dr dz) refl
  where
    if-long : (t : Bool) (n : Point) → (T t → W 0 n.r) → NormalWithin (pick t (Some n) None)
    if-long true n h = h tt
    if-long false n h = tt

    go : (dr dz : Float) → W 21 dr → W 21 dz → (q : Paper Float) → length_of dr dz ≡ q → NormalWithin (normal_by dr dz q)
    go dr dz X Y (refuses n) e = tt
    go dr dz X Y (answers l) e = if-long (lt zero64 l) (facing (pt (dz /₆₄ l) (neg dr /₆₄ l))) (λ h. facing-within (pt (dz /₆₄ l) (neg dr /₆₄ l)) (second-over (finite-within X) (finite-within Y) e h))

-- a point moved along a normal
shift-within : (p : Point) (rn : Float) (n : Point) → PointWithin p → W 21 rn → W 0 n.r → W apart_bits (shifted p rn n).r
unfolding shifted
shift-within p rn n w R N = within-weaken (lit≤ tt) (within-add w.r (within-mul R N (lit≤ tt)) (lit≤ tt))

-- the straight side
side-within : (a b : Point) (rn c : Float) (n : Option Point) → PointWithin a → PointWithin b → W 21 rn → NormalWithin n → SomeOf (W reach_bits) (side_at a b rn c n)
unfolding side_at
side-within a b rn c None wa wb R N = tt
side-within a b rn c (Some n) wa wb R N = line-within (shifted a rn n) (shifted b rn n) c (shift-within a rn n wa R N) (shift-within b rn n wb R N)

-- its least radius on a line is at most 2 ^ 39
pub capsule-within : (a b : Point) (rn c : Float) → PointWithin a → PointWithin b → W 21 rn → W bin_bits c → SomeOf (W reach_bits) (capsule_min_r a b rn c)
unfolding capsule_min_r
capsule-within a b rn c wa wb R C =
    lower-keeps (W reach_bits) (lower_of (end_at a rn c) (end_at b rn c)) (side_at a b rn c (normal_of a b))
    (lower-keeps (W reach_bits) (end_at a rn c) (end_at b rn c) (end-within a rn c wa R C) (end-within b rn c wb R C))
    (side-within a b rn c (normal_of a b) wa wb R (normal-within a b wa wb))

-- the lowest point
lowest-within : (a b : Point) (rn : Float) → PointWithin a → PointWithin b → W 21 rn → W 22 (capsule_lowest a b rn).r
unfolding capsule_lowest least_point
lowest-within a b rn wa wb R =
    within-sub (of_two (λ (p : Point). W 20 p.r) (lt a.r b.r) a _ wa.r (of_two (λ (p : Point). W 20 p.r) (lt b.r a.r) b _ wb.r wa.r)) R (lit< tt)

-- ---- a bin
-- low and high, where they are there
pub record FoundWithin (found : Swept) : Type 0 where
  pub low : SomeOf (W reach_bits) found.low
  pub high : SomeOf (W reach_bits) found.high

module _ (bin : ZRange) (B : BinSized bin) (rn : Float) (R : W 20 rn) (s : Segment) (w : SegmentWithin s) where
  -- the low with a segment more
  low-within : (l : Option Float) → SomeOf (W reach_bits) l → SomeOf (W reach_bits) (low_with l s (rn +₆₄ s.sag) bin)
  unfolding low_with in_bin
  low-within l u =
      let grown = rn +₆₄ s.sag in
      let G : W 21 grown = within-add R w.sag (lit< tt) in
      let p = capsule_lowest s.a s.b grown in
      let t = le bin.za p.z && le p.z bin.zb in
      let x = pick t (Some p.r) None in
      let y = capsule_min_r s.a s.b grown bin.za in
      let z = capsule_min_r s.a s.b grown bin.zb in
      lower-keeps (W reach_bits) (lower_of (lower_of l x) y) z
      (lower-keeps (W reach_bits) (lower_of l x) y
      (lower-keeps (W reach_bits) l x u (if_some (W reach_bits) t (Some p.r) (λ h. within-weaken (lit≤ tt) (lowest-within s.a s.b grown w.a w.b G))))
      (capsule-within s.a s.b grown bin.za w.a w.b G B.za.within))
      (capsule-within s.a s.b grown bin.zb w.a w.b G B.zb.within)

  -- the high with a segment more
  high-within : (h : Option Float) → SomeOf (W reach_bits) h → SomeOf (W reach_bits) (high_with h s rn bin)
  unfolding high_with
  high-within h u =
      let shrunk = rn -₆₄ s.sag in
      let G : W 21 shrunk = within-sub R w.sag (lit< tt) in
      let y = capsule_min_r s.a s.b shrunk bin.za in
      let z = capsule_min_r s.a s.b shrunk bin.zb in
      some-pick (W reach_bits) _ h _ u
      (lower-keeps (W reach_bits) h (upper_of y z) u
      (upper-keeps (W reach_bits) y z (capsule-within s.a s.b shrunk bin.za w.a w.b G B.za.within) (capsule-within s.a s.b shrunk bin.zb w.a w.b G B.zb.within)))

  -- both with a segment more
  segment-within : (acc : Swept) → FoundWithin acc → FoundWithin (with_segment acc s rn bin)
  unfolding with_segment
  segment-within acc u =
      of_two FoundWithin _ acc (record { low = low_with acc.low s (rn +₆₄ s.sag) bin; high = high_with acc.high s rn bin }) u
      (record { low = low-within acc.low u.low; high = high-within acc.high u.high })

-- low and high over the first k segments
nose-within : (side : TurnSide) (rn : Float) (xs : List Float) (bin : ZRange) → W 20 rn → BinSized bin → ((k : ℕ) → k < segment_count xs → SegmentWithin (segment_at xs k side)) → (k : ℕ) → k ≤ segment_count xs → FoundWithin (nose_to side rn xs bin k)
unfolding nose_to
nose-within side rn xs bin R B ws zero h = record { low = tt; high = tt }
nose-within side rn xs bin R B ws (suc k) h = segment-within bin B rn R (segment_at xs k side) (ws k h) (nose_to side rn xs bin k) (nose-within side rn xs bin R B ws k (under k (segment_count xs) h))
  where
    under : (k n : ℕ) → suc k ≤ n → k ≤ n
    under k n h = omega arith

-- ---- a nose that is not refused, on a stock that is not refused
module _ {spec : TurnStockSpec} {n : ℕ} (held : HeldSpec spec) (ok : Checked spec n) (rn : Float) (xs : List Float) (held-rn : T (fits binary64 rn)) (held-xs : HeldList xs) (good : segments_good rn xs ≡ true) (side : TurnSide) (i : ℕ) (below : i < n) where
  -- the numbers that it reaches in a bin are finite, at most 2 ^ 39 in size, and not -0.0
  pub nose-sized : ReachOf (Sized reach_bits) ((nose_act (clean_spec spec) side rn xs).at i)
  unfolding nose_act nose_reach
  nose-sized =
      let a = accepted rn xs held-rn held-xs good in
      let bin = bin_of (clean_spec spec) i in
      let f = nose_to side (clean_of rn) xs bin (segment_count xs) in
      let w = nose-within side (clean_of rn) xs bin a.radius.within (bin-within held ok i below) (λ k l. a.segments k l side) (segment_count xs) (le_refl (segment_count xs)) in
      reach-sized side reach_bits f.low f.high w.low w.high

  -- no NaN and no -0.0
  pub nose-plain : ReachOf (Plain binary64) ((nose_act (clean_spec spec) side rn xs).at i)
  nose-plain = reach-map (λ x s. s.plain) ((nose_act (clean_spec spec) side rn xs).at i) nose-sized

  -- no infinity either
  pub nose-finite : ReachOf (Finite binary64) ((nose_act (clean_spec spec) side rn xs).at i)
  nose-finite = reach-map (λ x s. finite-within s.within) ((nose_act (clean_spec spec) side rn xs).at i) nose-sized
