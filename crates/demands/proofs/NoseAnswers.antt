-- In 01's domain every length and every root that a nose asks for answers. So the cases `normal_by .. (refuses n)` and `less_root r (refuses n)` of the rule are never taken: a side is missing
-- for ends that are the same alone (`normal-none` of `nose`), and a circle where it does not reach the line alone. Assumes nothing.
use mathlib.Core.Path.{◌≡◌, ap₂}
use mathlib.Core.Bool.{Bool, true, ◌&&◌}
use mathlib.Core.List.{List}
use Prim.Native.Nat.{ℕ, ◌+◌, ◌*◌, ◌<◌}
use lib.Dec.{T, lit<, lit≤}
use lib.Ieee.{Float, binary64, of_bits, le, fits}
use lib.Ieee.Bits.{is_true}
use lib.Ieee.Scale.{finite}
use Rattle.refusals.specs.Paper.{Paper, answers}
use Rattle.floats.specs.Numbers.{◌+₆₄◌, ◌-₆₄◌, ◌*₆₄◌, zero64, greatest_of, clean_of}
use Rattle.floats.specs.Kinds.{Within}
use Rattle.floats.proofs.Signed.{number-zero, number-finite}
use Rattle.floats.proofs.Within.{finite-within, within-weaken, within-sub, within-add, within-mul}
use Rattle.floats.proofs.Ratio.{gap_within}
use Rattle.floats.proofs.Lattice.{greatest-ge-r}
use Rattle.numbers.specs.Root.{root_of}
use Rattle.numbers.specs.Length.{length_of}
use Rattle.numbers.proofs.Lengths.{length-answers}
use Rattle.stock.specs.declared.TurnStockSpec.{TurnStockSpec}
use Rattle.stock.specs.declared.TurnSide.{TurnSide}
use Rattle.stock.specs.Spec.{clean_spec}
use Rattle.stock.specs.Bin.{bin_of}
use Rattle.stock.proofs.Count.{Checked}
use Rattle.stock.proofs.Bins.{HeldSpec, HeldList, bin-within, bin_bits}
use Rattle.nose.specs.declared.Point.{Point}
use Rattle.nose.specs.declared.Segment.{Segment}
use Rattle.nose.specs.Nose.{segment_at, segment_count, segments_good}
use Rattle.nose.proofs.Segments.{PointWithin, SegmentWithin, accepted}
use Rattle.demands.proofs.First.{root-exactly}

-- it answers
abbrev Answered : {A : Type 0} → Paper A → Type 0
Answered {A} p = (a : A) × (p ≡ answers a)

-- the root that the circle of radius rn about p asks for on the line z = c
abbrev end_root : Point → Float → Float → Paper Float
end_root p rn c =
    let dz = p.z -₆₄ c in
    root_of (greatest_of (rn *₆₄ rn -₆₄ dz *₆₄ dz) zero64)

-- the length that the side of a segment asks for
abbrev side_length : Segment → Paper Float
side_length s = length_of (s.b.r -₆₄ s.a.r) (s.b.z -₆₄ s.a.z)

-- a root of a finite number that is not below 0
root-answers : (g : Float) → T (finite g) → T (le zero64 g) → Answered (root_of g)
root-answers g f n = (root-exactly g).answered (ap₂ (λ (a b : Bool). a && b) (is_true (finite g) f) (is_true (le zero64 g) n), tt)

end-answers : (p : Point) (rn c : Float) → PointWithin p → Within binary64 21 rn → Within binary64 bin_bits c → Answered (end_root p rn c)
unfolding of_bits
end-answers p rn c w R C =
    let dz = p.z -₆₄ c in
    let D : Within binary64 (bin_bits + 1) dz = within-sub w.z C (lit< tt) in
    let S : Within binary64 (2 * bin_bits + 3) (rn *₆₄ rn -₆₄ dz *₆₄ dz) = within-sub (within-mul {j = bin_bits + 1} {k = bin_bits + 1} (within-weaken (lit≤ tt) R) (within-weaken (lit≤ tt) R) (lit≤ tt)) (within-mul D D (lit≤ tt)) (lit< tt) in
    let g = greatest_of (rn *₆₄ rn -₆₄ dz *₆₄ dz) zero64 in
    let G : Within binary64 (2 * bin_bits + 3) g = gap_within (within-weaken (lit≤ tt) R) D (lit< tt) in
    root-answers g G.finite (greatest-ge-r (number-finite (finite-within S)) number-zero)

-- of a segment, with a capsule of this radius, on this line
pub record SegmentAnswers (s : Segment) (rn c : Float) : Type 0 where
  pub length : Answered (side_length s)
  pub first : Answered (end_root s.a rn c)
  pub second : Answered (end_root s.b rn c)

segment-answers : (s : Segment) (rn c : Float) → SegmentWithin s → Within binary64 21 rn → Within binary64 bin_bits c → SegmentAnswers s rn c
segment-answers s rn c w R C = record {
  length = length-answers (within-weaken (lit≤ tt) (within-sub w.b.r w.a.r (lit< tt))) (within-weaken (lit≤ tt) (within-sub w.b.z w.a.z (lit< tt)));
  first = end-answers s.a rn c w.a R C;
  second = end-answers s.b rn c w.b R C;
}

-- EVERY ROOT AND EVERY LENGTH THAT A NOSE ASKS FOR ANSWERS: of a nose that is not refused, on a stock that is not refused, of each segment, at both ends of each bin, for the capsule grown by the
-- sag and for the one shrunk by it. The numbers handed over are values of f64.
module _ {spec : TurnStockSpec} {n : ℕ} (held : HeldSpec spec) (ok : Checked spec n) (rn : Float) (xs : List Float) (held-rn : T (fits binary64 rn)) (held-xs : HeldList xs) (good : segments_good rn xs ≡ true) (side : TurnSide) (i : ℕ) (below : i < n) (k : ℕ) (one : k < segment_count xs) where
  pub grown-answers : SegmentAnswers (segment_at xs k side) (clean_of rn +₆₄ (segment_at xs k side).sag) (bin_of (clean_spec spec) i).za × SegmentAnswers (segment_at xs k side) (clean_of rn +₆₄ (segment_at xs k side).sag) (bin_of (clean_spec spec) i).zb
  grown-answers =
      let a = accepted rn xs held-rn held-xs good in
      let w = a.segments k one side in
      let B = bin-within held ok i below in
      let R = within-add a.radius.within w.sag (lit< tt) in
      (segment-answers (segment_at xs k side) _ _ w R B.za.within, segment-answers (segment_at xs k side) _ _ w R B.zb.within)

  pub shrunk-answers : SegmentAnswers (segment_at xs k side) (clean_of rn -₆₄ (segment_at xs k side).sag) (bin_of (clean_spec spec) i).za × SegmentAnswers (segment_at xs k side) (clean_of rn -₆₄ (segment_at xs k side).sag) (bin_of (clean_spec spec) i).zb
  shrunk-answers =
      let a = accepted rn xs held-rn held-xs good in
      let w = a.segments k one side in
      let B = bin-within held ok i below in
      let R = within-sub a.radius.within w.sag (lit< tt) in
      (segment-answers (segment_at xs k side) _ _ w R B.za.within, segment-answers (segment_at xs k side) _ _ w R B.zb.within)
