-- A segment with its bin-free part worked out says the same as the segment. Assumes nothing.
use Rattle.std.specs.Prelude.{Option, None, Some}
use mathlib.Core.Path.{◌≡◌, refl, sym, ap, ◌∙◌, subst}
use mathlib.Core.Logic.{◌⊎◌, inl, inr}
use mathlib.Core.Bool.{Bool, true, false, ◌&&◌, ◌||◌}
use mathlib.Core.List.{List, []}
use Prim.Native.Nat.{ℕ, zero, suc, ◌+◌}
use native.Mathlib.Nat.{zero-mul}
use native.Mathlib.Numerals.{add-one}
use lib.Dec.{T, T_not}
use lib.IntN.{ℤ}
use lib.Ieee.{Float, nan, inf, fin, binary64, fits, is_nan, eq, ne, le, lt, of_bits}
use lib.Ieee.Fits.{add-fits, sub-fits, and_l, and_r}
use Rattle.floats.specs.Pick.{pick, pick_true, pick-false}
use Rattle.floats.specs.Numbers.{◌+₆₄◌, ◌-₆₄◌, zero64, minus_zero, clean_of}
use Rattle.floats.specs.Kinds.{Plain}
use Rattle.floats.proofs.Order.{eq-unique, eq-sym, eq_trans, eq_self, number-of}
use Rattle.floats.proofs.Cleared.{plain-zero64}
use Rattle.floats.proofs.Within.{number-l, number-r}
use Rattle.stock.specs.declared.TurnStockSpec.{TurnStockSpec}
use Rattle.stock.specs.declared.TurnSide.{TurnSide}
use Rattle.stock.specs.declared.ZRange.{ZRange}
use Rattle.stock.specs.Bin.{bin_of}
use Rattle.reach.specs.declared.Swept.{Swept}
use Rattle.reach.specs.Low.{lower_of, upper_of}
use Rattle.reach.specs.declared.Reach.TheVariants.{Passed}
use Rattle.reach.specs.Reach.{reach_from}
use Rattle.nose.specs.declared.Point.{Point}
use Rattle.nose.specs.declared.Segment.{Segment}
use Rattle.nose.specs.declared.Track.{Track}
use Rattle.nose.specs.Capsule.{end_at, line_at, side_at, normal_of, capsule_min_r}
use Rattle.nose.specs.Nose.{segment_at, segment_count, low_with, high_with, with_segment, nose_to, nose_reach, nose_act}
use Rattle.nose.specs.Track.{capsule_of, end_on, side_on, capsule_at, alike_of, track_of, sample_at, step_of, with_track}
use Rattle.floats.proofs.Bools.{so}

-- ---- a capsule
-- the lower of a radius and none is the radius
lower-none : (a : Option Float) → lower_of a None ≡ a
unfolding lower_of
lower-none None = refl
lower-none (Some x) = refl

-- there is no upper of a radius and none
upper-none : (a : Option Float) → upper_of a None ≡ None
unfolding upper_of
upper-none None = refl
upper-none (Some x) = refl

-- nor of none and a radius
none-upper : (b : Option Float) → upper_of None b ≡ None
unfolding upper_of
none-upper b = refl

-- with a normal or with none
capsule-by : (a b : Point) (rn c : Float) (n : Option Point) → capsule_at (capsule_of a b n rn) c ≡ lower_of (lower_of (end_at a rn c) (end_at b rn c)) (side_at a b rn c n)
unfolding capsule_at capsule_of end_on side_on end_at line_at side_at pick
capsule-by a b rn c None = sym (lower-none _)
capsule-by a b rn c (Some n) = refl

-- it says what the capsule of its two ends says
pub capsule-is : (a b : Point) (rn c : Float) → capsule_at (capsule_of a b (normal_of a b) rn) c ≡ capsule_min_r a b rn c
unfolding capsule_min_r
capsule-is a b rn c = capsule-by a b rn c (normal_of a b)

-- ---- a number that is no zero is written in one way
-- either zero equals zero
zero-eq : (s : Bool) (e : ℤ) → T (eq (fin s 0 e) zero64)
unfolding eq of_bits
zero-eq true e = simp zero-mul tt
zero-eq false e = simp zero-mul tt

-- equal numbers are in order
eq-le : (x y : Float) → T (eq x y) → T (le x y)
unfolding le
eq-le x y h = go (lt x y) (eq x y) h
  where
    go : (a b : Bool) → T b → T (a || b)
    go true b t = tt
    go false b t = t

-- what equals a number that is no zero is no NaN and no -0.0
plain-l : (x y : Float) → T (fits binary64 x) → T (fits binary64 y) → T (eq x y) → T (ne y zero64) → Plain binary64 x
unfolding is_nan minus_zero ne eq
plain-l nan y f g h k = absurd (subst T (nan_eq y) h)
  where
    nan_eq : (y : Float) → eq nan y ≡ false
    nan_eq nan = refl
    nan_eq (inf s) = refl
    nan_eq (fin s m e) = refl
plain-l (inf s) y f g h k = record { held = f; number = tt; unsigned = tt }
plain-l (fin s zero e) y f g h k =
    let X = number-l (fin s 0 e) y f (eq-le (fin s 0 e) y h) in
    let Y = number-r (fin s 0 e) y g (eq-le (fin s 0 e) y h) in
    absurd (T_not (eq y zero64) k (eq_trans Y X (number-of plain-zero64) (eq-sym X Y h) (zero-eq s e)))
plain-l (fin s (suc m) e) y f g h k = record { held = f; number = tt; unsigned = tt }

-- two numbers that are alike are one
pub alike_same : (a b : Float) → T (fits binary64 a) → T (fits binary64 b) → alike_of a b ≡ true → a ≡ b
unfolding alike_of
alike_same a b f g h =
    let t : T (eq a b && ne b zero64) = so h in
    let u = and_l (eq a b) (ne b zero64) t in
    let v = and_r (eq a b) (ne b zero64) t in
    let B = number-r a b g (eq-le a b u) in
    eq-unique (plain-l a b f g u v) (plain-l b b g g (eq_self B) v) u

-- so a track has the same sample on both lines
pub alike-sample : (t : Track) (a b : Float) → T (fits binary64 a) → T (fits binary64 b) → alike_of a b ≡ true → sample_at t a ≡ sample_at t b
alike-sample t a b f g h = ap (sample_at t) (alike_same a b f g h)

-- ---- a segment
-- the shrunk capsule on the line z = c, as a sample has it
unfoldable shrunk_at : Point → Point → Float → Float → Float → Option Float
shrunk_at a b sag rn c = pick (lt rn sag || alike_of (rn +₆₄ sag) (rn -₆₄ sag)) (capsule_min_r a b (rn +₆₄ sag) c) (capsule_min_r a b (rn -₆₄ sag) c)

-- where the sag is more than rn the shrunk capsule does not matter, and where the two radii are alike it is the grown one
choose : (b d : Bool) (high ga ha gb hb : Option Float) → (d ≡ true → ga ≡ ha) → (d ≡ true → gb ≡ hb) → pick b high (lower_of high (upper_of (pick (b || d) ga ha) (pick (b || d) gb hb))) ≡ pick b high (lower_of high (upper_of ha hb))
unfolding pick
choose true d high ga ha gb hb e f = refl
choose false true high ga ha gb hb e f = simp (e refl, f refl)
choose false false high ga ha gb hb e f = refl

-- the high, by samples and by capsules
highs : (high : Option Float) (s : Segment) (rn : Float) (bin : ZRange) → pick (lt rn s.sag) high (lower_of high (upper_of (shrunk_at s.a s.b s.sag rn bin.za) (shrunk_at s.a s.b s.sag rn bin.zb))) ≡ high_with high s rn bin
unfolding high_with shrunk_at
highs high s rn bin =
    let same = alike_same (rn +₆₄ s.sag) (rn -₆₄ s.sag) (add-fits binary64 rn s.sag) (sub-fits binary64 rn s.sag) in
    choose (lt rn s.sag) (alike_of (rn +₆₄ s.sag) (rn -₆₄ s.sag)) high _ _ _ _
    (λ e. ap (λ (k : Float). capsule_min_r s.a s.b k bin.za) (same e))
    (λ e. ap (λ (k : Float). capsule_min_r s.a s.b k bin.zb) (same e))

-- a track says what its segment says
pub by-track : (acc : Swept) (s : Segment) (rn : Float) (bin : ZRange) → with_track acc (track_of s rn) bin ≡ with_segment acc s rn bin
unfolding with_track track_of with_segment sample_at step_of low_with shrunk_at
by-track acc s rn bin = simp (capsule-is, highs acc.high s rn bin)

-- one segment more, by its track
pub nose-more : (side : TurnSide) (rn : Float) (xs : List Float) (bin : ZRange) (k : ℕ) → nose_to side rn xs bin (k + 1) ≡ with_track (nose_to side rn xs bin k) (track_of (segment_at xs k side) rn) bin
unfolding nose_to
nose-more side rn xs bin k = rw (add-one k) (sym (by-track (nose_to side rn xs bin k) (segment_at xs k side) rn bin))

-- what is found over all segments is what the cut reaches
pub nose-at : (spec : TurnStockSpec) (side : TurnSide) (rn : Float) (xs : List Float) (i : ℕ) (found : Swept) → found ≡ nose_to side (clean_of rn) xs (bin_of spec i) (segment_count xs) → reach_from side found.low found.high ≡ (nose_act spec side rn xs).at i
unfolding nose_act nose_reach
nose-at spec side rn xs i found h = ap (λ (f : Swept). reach_from side f.low f.high) h

-- no segments reach nothing
pub no-segments : (spec : TurnStockSpec) (side : TurnSide) (rn : Float) (i : ℕ) → (nose_act spec side rn []).at i ≡ Passed
unfolding nose_act nose_reach nose_to reach_from
no-segments spec side rn i = refl

-- ---- what does not clear a bin
-- a segment that is passed over keeps the high too
keeps_high : (t : Bool) (acc f : Swept) → f.high ≡ acc.high → (pick t acc f).high ≡ acc.high
unfolding pick
keeps_high true acc f e = refl
keeps_high false acc f e = e

-- a test that picks one of two that are the same
either_same : (t : Bool) (a b : Option Float) → b ≡ a → pick t a b ≡ a
unfolding pick
either_same true a b e = refl
either_same false a b e = e

module _ (acc : Swept) (s : Segment) (rn : Float) (bin : ZRange) where
  -- a high that one capsule leaves, the segment leaves
  with-high : high_with acc.high s rn bin ≡ acc.high → (with_segment acc s rn bin).high ≡ acc.high
  unfolding with_segment
  with-high e = keeps_high _ acc (record { low = low_with acc.low s (rn +₆₄ s.sag) bin; high = high_with acc.high s rn bin }) e

  -- a sag of more than the nose never moves the high
  pub shy-high : lt rn s.sag ≡ true → (with_segment acc s rn bin).high ≡ acc.high
  unfolding high_with
  shy-high h = with-high (pick_true _ _ _ h)

  -- no upper of the two ends, no change of the high
  missed : upper_of (capsule_min_r s.a s.b (rn -₆₄ s.sag) bin.za) (capsule_min_r s.a s.b (rn -₆₄ s.sag) bin.zb) ≡ None → (with_segment acc s rn bin).high ≡ acc.high
  unfolding high_with
  missed e = with-high (either_same _ _ _ (ap (λ (x : Option Float). lower_of acc.high x) e ∙ lower-none acc.high))

  -- nor does a shrunk capsule that reaches only a part of the bin
  pub part-high : (capsule_min_r s.a s.b (rn -₆₄ s.sag) bin.za ≡ None) ⊎ (capsule_min_r s.a s.b (rn -₆₄ s.sag) bin.zb ≡ None) → (with_segment acc s rn bin).high ≡ acc.high
  part-high (inl e) = missed (ap (λ (x : Option Float). upper_of x (capsule_min_r s.a s.b (rn -₆₄ s.sag) bin.zb)) e ∙ none-upper _)
  part-high (inr e) = missed (ap (λ (x : Option Float). upper_of (capsule_min_r s.a s.b (rn -₆₄ s.sag) bin.za) x) e ∙ upper-none _)

-- ---- which bins a track leaves as they are
-- one that starts above the track
pub track-under : (acc : Swept) (t : Track) (bin : ZRange) → lt t.to bin.za ≡ true → with_track acc t bin ≡ acc
unfolding with_track
track-under acc t bin h = pick_true _ _ _ (rw h)

-- one that ends below it
pub track-over : (acc : Swept) (t : Track) (bin : ZRange) → lt bin.zb t.from ≡ true → with_track acc t bin ≡ acc
unfolding with_track
track-over acc t bin h = pick_true _ _ _ (rw h (either (lt t.to bin.za)))
  where
    either : (b : Bool) → (b || true) ≡ true
    either true = refl
    either false = refl

-- any other bin takes a step
pub track-step : (acc : Swept) (t : Track) (bin : ZRange) → lt t.to bin.za ≡ false → lt bin.zb t.from ≡ false → with_track acc t bin ≡ step_of acc t.low t.shy bin (sample_at t bin.za) (sample_at t bin.zb)
unfolding with_track
track-step acc t bin h k = pick-false _ _ _ (rw (h, k))
