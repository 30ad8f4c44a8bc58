-- In 01's domain every number that a single cut reaches is finite and not -0.0; of a thread, an inner thread or a drill at most 2 ^ 20 in size. Assumes nothing.
use mathlib.Core.Path.{◌≡◌, sym, subst}
use mathlib.Core.Bool.{Bool, true, false, not, ◌&&◌}
use Prim.Native.Nat.{ℕ, zero, suc, ◌<◌, zero-le}
use native.Mathlib.Omega.{arith}
use lib.Dec.{T, lit<, lit≤}
use lib.Ieee.{Float, binary64, fits, le, lt, of_bits}
use lib.Ieee.Bits.{is_true}
use lib.Ieee.Fits.{and_l, and_r}
use Rattle.floats.specs.Pick.{pick}
use Rattle.floats.specs.Numbers.{◌-₆₄◌, ◌*₆₄◌, ◌/₆₄◌, zero64, least_of, greatest_of, clean_of, usable}
use Rattle.floats.specs.Kinds.{Finite}
use Rattle.floats.proofs.Order.{number-of, nlt→le, lt-is-not-le}
use Rattle.floats.proofs.Exact.{plain-zero}
use Rattle.floats.proofs.Signed.{zero+, number-zero, sub-nonneg}
use Rattle.floats.proofs.Within.{finite-within, within-weaken, within-zero, within-sub}
use Rattle.floats.proofs.Zeros.{sub-plain}
use Rattle.floats.proofs.Ratio.{cone_of, cone-plain, cone-within}
use Rattle.stock.specs.declared.TurnStockSpec.{TurnStockSpec}
use Rattle.stock.specs.declared.ZRange.{ZRange}
use Rattle.stock.specs.Spec.{clean_spec}
use Rattle.stock.specs.Bin.{bin_of}
use Rattle.stock.proofs.Count.{Checked}
use Rattle.stock.proofs.Bins.{Sized, HeldSpec, HeldList, BinSized, clean-sized, bin-within, bin_bits}
use Rattle.reach.specs.declared.Reach.TheVariants.{Passed, Low, Both}
use Rattle.reach.specs.Kinds.{ReachOf, PlainAct}
use Rattle.reach.proofs.Reaches.{reach-map, reach-pick}
use Rattle.nose.specs.Nose.{nose_act}
use Rattle.nose.proofs.Noses.{nose-sized, reach_bits}
use Rattle.cuts.specs.declared.Cut.{Cut}
use Rattle.cuts.specs.declared.Cut.TheVariants.{Line, Thread, ThreadInner, Drill, Arc}
use Rattle.cuts.specs.Cut.{misses, drill_at, line_of, thread_reach, drill_reach, cut_reach, cut_good, clean_cut, cut_act}

-- the numbers of a cut are values of f64, as those of a cut that is handed over are
abbrev pub HeldCut : Cut → Type 0
HeldCut (Line side rn sag ar az br bz) = T (fits binary64 rn) × T (fits binary64 sag) × T (fits binary64 ar) × T (fits binary64 az) × T (fits binary64 br) × T (fits binary64 bz)
HeldCut (Thread z0 z1 r) = T (fits binary64 z0) × T (fits binary64 z1) × T (fits binary64 r)
HeldCut (ThreadInner z0 z1 r) = T (fits binary64 z0) × T (fits binary64 z1) × T (fits binary64 r)
HeldCut (Drill tip r cone) = T (fits binary64 tip) × T (fits binary64 r) × T (fits binary64 cone)
HeldCut Arc = Unit {0}

-- ---- the drill's radius
module _ (k : ℕ) (h : k < 1000) (z tip r cone : Float) (Z : Sized k z) (A : Sized 20 tip) (R : Sized 20 r) (C : Sized 20 cone) (r+ : T (lt zero+ r)) where
  -- within its point
  in-cone : T (not (lt z tip)) → T (not (le cone zero+)) → Sized 20 (cone_of binary64 (z -₆₄ tip) cone r)
  in-cone p q =
      let z' = finite-within Z.within in
      let t' = finite-within A.within in
      let c' = finite-within C.within in
      let r' = finite-within R.within in
      let way = finite-within (within-sub Z.within A.within (omega (arith, h))) in
      let c+ = subst T (sym (lt-is-not-le number-zero (number-of C.plain))) q in
      record {
        plain = cone-plain c' c+ r' r+ R.plain (sub-plain Z.plain z' t') way ((sub-nonneg z' t').1 (nlt→le (number-of A.plain) (number-of Z.plain) p));
        within = cone-within c' c+ r' r+ R.within way;
      }

  drill-sized : Sized 20 (drill_at z tip r cone)
  unfolding drill_at pick of_bits cone_of
  drill-sized = go (lt z tip) (le cone zero64) in-cone
    where
      go : (b c : Bool) → (T (not b) → T (not c) → Sized 20 (least_of (greatest_of ((z -₆₄ tip) /₆₄ cone *₆₄ r) zero64) r)) → Sized 20 (pick b zero64 (pick c r (least_of (greatest_of ((z -₆₄ tip) /₆₄ cone *₆₄ r) zero64) r)))
      go true c p = record { plain = plain-zero binary64; within = within-weaken zero-le (within-zero binary64) }
      go false true p = R
      go false false p = p tt tt

-- ---- what a cut reaches
thread-radius : (z0 z1 r : Float) → T (fits binary64 r) → T (usable (clean_of z0) && usable (clean_of z1) && usable (clean_of r) && le zero64 (clean_of r)) → Sized 20 (clean_of r)
thread-radius z0 z1 r f t =
    let a = usable (clean_of z0) in
    let b = usable (clean_of z1) in
    let c = usable (clean_of r) in
    clean-sized r f (and_r (a && b) c (and_l (a && b && c) (le zero64 (clean_of r)) t))

-- the five numbers of a line
line-held : (ar az br bz sag : Float) → T (fits binary64 ar) → T (fits binary64 az) → T (fits binary64 br) → T (fits binary64 bz) → T (fits binary64 sag) → HeldList (line_of ar az br bz sag)
unfolding fits
line-held ar az br bz sag a b c d e zero = a
line-held ar az br bz sag a b c d e (suc zero) = b
line-held ar az br bz sag a b c d e (suc (suc zero)) = c
line-held ar az br bz sag a b c d e (suc (suc (suc zero))) = d
line-held ar az br bz sag a b c d e (suc (suc (suc (suc zero)))) = e
line-held ar az br bz sag a b c d e (suc (suc (suc (suc (suc k))))) = tt

-- at most 2 ^ 20 is at most 2 ^ 39
larger : (x : Float) → Sized 20 x → Sized reach_bits x
larger x s = record { plain = s.plain; within = within-weaken (lit≤ tt) s.within }

thread-reach : (b : ZRange) (z0 z1 r : Float) → T (fits binary64 r) → T (usable (clean_of z0) && usable (clean_of z1) && usable (clean_of r) && le zero64 (clean_of r)) → ReachOf (Sized 20) (thread_reach b (clean_of z0) (clean_of z1) (clean_of r))
unfolding thread_reach
thread-reach b z0 z1 r f g = reach-pick (Sized 20) (misses b (clean_of z0) (clean_of z1)) Passed (Low (clean_of r)) tt (thread-radius z0 z1 r f g)

drill-reach : (b : ZRange) → BinSized b → (tip r cone : Float) → T (fits binary64 tip) → T (fits binary64 r) → T (fits binary64 cone) → T (usable (clean_of tip) && usable (clean_of r) && usable (clean_of cone) && lt zero64 (clean_of r)) → ReachOf (Sized 20) (drill_reach b (clean_of tip) (clean_of r) (clean_of cone))
unfolding drill_reach of_bits
drill-reach b w tip r cone fa fr fc g =
    let x = usable (clean_of tip) in
    let y = usable (clean_of r) in
    let z = usable (clean_of cone) in
    let d = lt zero64 (clean_of r) in
    let t3 = and_l (x && y && z) d g in
    let t2 = and_l (x && y) z t3 in
    let A = clean-sized tip fa (and_l x y t2) in
    let R = clean-sized r fr (and_r x y t2) in
    let C = clean-sized cone fc (and_r (x && y) z t3) in
    let r+ = and_r (x && y && z) d g in
    reach-pick (Sized 20) (le b.zb (clean_of tip)) Passed (Both (drill_at b.zb (clean_of tip) (clean_of r) (clean_of cone)) (drill_at b.za (clean_of tip) (clean_of r) (clean_of cone))) tt
    (drill-sized bin_bits (lit< tt) b.zb (clean_of tip) (clean_of r) (clean_of cone) w.zb A R C r+, drill-sized bin_bits (lit< tt) b.za (clean_of tip) (clean_of r) (clean_of cone) w.za A R C r+)

-- ---- a cut that is not refused, on a stock that is not refused
module _ {spec : TurnStockSpec} {n : ℕ} (held : HeldSpec spec) (ok : Checked spec n) (u : Cut) (cut-held : HeldCut u) (good : cut_good (clean_cut u) ≡ true) where
  -- the numbers that it reaches in a bin are at most 2 ^ 39 in size, and neither a NaN nor -0.0
  pub cut-sized : (i : ℕ) → i < n → ReachOf (Sized reach_bits) ((cut_act (clean_spec spec) (clean_cut u)).at i)
  unfolding cut_reach cut_good clean_cut nose_act
  cut-sized i h = go u cut-held (subst T (sym good) tt)
    where
      go : (u : Cut) → HeldCut u → T (cut_good (clean_cut u)) → ReachOf (Sized reach_bits) (cut_reach (bin_of (clean_spec spec) i) (clean_cut u))
      go (Line side rn sag ar az br bz) f g = nose-sized held ok rn (line_of ar az br bz sag) f.0 (line-held ar az br bz sag f.2 f.3 f.4 f.5 f.1) (is_true _ g) side i h
      go (Thread z0 z1 r) f g = reach-map larger (thread_reach (bin_of (clean_spec spec) i) (clean_of z0) (clean_of z1) (clean_of r)) (thread-reach (bin_of (clean_spec spec) i) z0 z1 r f.2 g)
      go (ThreadInner z0 z1 r) f g = reach-map larger (thread_reach (bin_of (clean_spec spec) i) (clean_of z0) (clean_of z1) (clean_of r)) (thread-reach (bin_of (clean_spec spec) i) z0 z1 r f.2 g)
      go (Drill tip r cone) f g = reach-map larger (drill_reach (bin_of (clean_spec spec) i) (clean_of tip) (clean_of r) (clean_of cone)) (drill-reach (bin_of (clean_spec spec) i) (bin-within held ok i h) tip r cone f.0 f.1 f.2 g)
      go Arc f g = tt

  -- they are plain
  pub cut-plain : PlainAct n (cut_act (clean_spec spec) (clean_cut u))
  cut-plain i h = reach-map (λ x s. s.plain) ((cut_act (clean_spec spec) (clean_cut u)).at i) (cut-sized i h)

  -- and finite
  pub cut-finite : (i : ℕ) → i < n → ReachOf (Finite binary64) ((cut_act (clean_spec spec) (clean_cut u)).at i)
  cut-finite i h = reach-map (λ x s. finite-within s.within) ((cut_act (clean_spec spec) (clean_cut u)).at i) (cut-sized i h)
