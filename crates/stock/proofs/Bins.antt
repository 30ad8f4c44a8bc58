-- The numbers of a checked spec and the ends of its bins: finite, not -0.0, and rising with the bin. Assumes nothing.
use Rattle.std.proofs.Common.{ℕ, ◌+◌, ◌^◌, ◌<◌, ◌≤◌, false, ◌&&◌, T, List, pos, sym, ◌∙◌, subst, le_of_eq, mul-le-mul_right, mul-one, arith, lit≤, pow_pos, pow-add}
use native.Mathlib.Nat as Nat
use lib.Ieee.{Float, nan, inf, fin, Format, binary64, emax, low, fits, is_nan, neg, le, lt, eq, of_int, of_bits}
use lib.Ieee.Fits.{and_l, and_r}
use lib.Ieee.Order.{round_mono}
use Rattle.refusals.specs.Limits.{cell_limit}
use Rattle.floats.specs.Numbers.{◌+₆₄◌, zero64, million, clean_of, usable}
use Rattle.floats.specs.Pick.{pick}
use Rattle.floats.specs.Kinds.{Number, Plain, Within}
use Rattle.floats.proofs.Order.{le-self, lt→le}
use Rattle.floats.proofs.Lattice.{least-plain, least-mono}
use Rattle.floats.proofs.Cleared.{clean-plain}
use Rattle.floats.proofs.Rounded.{rounded, rounded-mono, snap-pow, number-round, mag-round}
use Rattle.floats.proofs.Signed.{zero+, number-zero, number-finite, add-mono, mul_mono}
use Rattle.floats.proofs.Within.{finite-within, number-within, within, within-weaken, within-add, within-mul, within-least, within_both, within-test}
use Rattle.floats.proofs.Zeros.{add-plain}
use Rattle.stock.specs.declared.TurnStockSpec.{TurnStockSpec}
use Rattle.stock.specs.declared.ZRange.{ZRange}
use Rattle.stock.specs.Spec.{clean_spec, spec_good}
use Rattle.stock.specs.Bin.{start_of, bin_of}
use Rattle.stock.specs.Cell.{number_at}
use Rattle.stock.proofs.Count.{Checked}

-- ---- a whole number as a float
-- a whole number of at most 2 ^ k is at most 2 ^ k as a float
pub within-int : {f : Format} {k : ℕ} (n : ℕ) → n ≤ 2 ^ k → k ≤ emax f → Within f k (of_int f (pos n))
unfolding of_int
within-int {f} {k} n h r =
    let l = low f in
    let a : rounded f n 1 ≤ 2 ^ (k + l) = Nat.le_trans (rounded-mono f n 1 (2 ^ (k + l)) (2 ^ l) (pow_pos 0) (pow_pos l) (Nat.le_trans (mul-le-mul_right (2 ^ l) h) (le_of_eq (sym (pow-add 2 k l) ∙ sym (mul-one (2 ^ (k + l))))))) (le_of_eq (snap-pow f (k + l) (room k (emax f) l r))) in
    within r (number-round f false n 1) (Nat.le_trans (le_of_eq (mag-round f false n 1)) a)
  where
    room : (k e l : ℕ) → k ≤ e → k + l ≤ l + e
    room k e l h = omega arith

-- a greater whole number is no lesser float
pub int-mono : (f : Format) (m n : ℕ) → m ≤ n → T (le (of_int f (pos m)) (of_int f (pos n)))
unfolding of_int
int-mono f m n h = round_mono f m 1 n 1 (pow_pos 0) (pow_pos 0) (mul-le-mul_right 1 h)

-- ---- arguments
-- at most 2 ^ k in size, and neither a NaN nor -0.0
pub record Sized (k : ℕ) (x : Float) : Type 0 where
  pub plain : Plain binary64 x
  pub within : Within binary64 k x

-- a number that is usable, whatever the sign of a zero, is no NaN
usable-number : (x : Float) → T (fits binary64 x) → T (usable (clean_of x)) → Number binary64 x
unfolding clean_of pick eq le lt is_nan neg of_bits
usable-number nan f h = absurd h
usable-number (inf s) f h = record { held = f; number = tt }
usable-number (fin s m e) f h = record { held = f; number = tt }

-- a usable number with -0.0 read as +0.0 is at most 2 ^ 20 in size, and not -0.0
pub clean-sized : (x : Float) → T (fits binary64 x) → T (usable (clean_of x)) → Sized 20 (clean_of x)
unfolding of_bits fits
clean-sized x f h =
    let p = clean-plain (usable-number x f h) in
    record {
      plain = p;
      within = within_both (within-test binary64 20 million tt) p.held (and_l (le (neg million) (clean_of x)) (le (clean_of x) million) h) (and_r (le (neg million) (clean_of x)) (le (clean_of x) million) h);
    }

-- ---- a checked spec
-- every number of a spec is a value of f64, as those of a lent spec are
pub record HeldSpec (s : TurnStockSpec) : Type 0 where
  pub z-min : T (fits binary64 s.z_min_mm)
  pub z-max : T (fits binary64 s.z_max_mm)
  pub outer : T (fits binary64 s.outer_radius_mm)
  pub bore : T (fits binary64 s.bore_radius_mm)
  pub cell : T (fits binary64 s.cell_mm)

-- and so is every number of a list
abbrev pub HeldList : List Float → Type 0
HeldList xs = (k : ℕ) → T (fits binary64 (number_at xs k))

-- the numbers of a spec that is not refused, with -0.0 read as +0.0
pub record Bar (s : TurnStockSpec) : Type 0 where
  pub z-min : Sized 20 s.z_min_mm
  pub z-max : Sized 20 s.z_max_mm
  pub outer : Sized 20 s.outer_radius_mm
  pub bore : Sized 20 s.bore_radius_mm
  pub cell : Sized 20 s.cell_mm
  -- z_min < z_max
  pub along : T (lt s.z_min_mm s.z_max_mm)
  -- bore >= 0
  pub hollow : T (le zero+ s.bore_radius_mm)
  -- bore < outer
  pub thick : T (lt s.bore_radius_mm s.outer_radius_mm)
  -- cell > 0
  pub wide : T (lt zero+ s.cell_mm)

-- what the rules say of a spec with -0.0 read as +0.0, taken apart
bar-good : (spec : TurnStockSpec) → HeldSpec spec → T (spec_good (clean_spec spec)) → Bar (clean_spec spec)
unfolding clean_spec spec_good of_bits
bar-good spec held t =
    let s = clean_spec spec in
    let a = usable s.z_min_mm in
    let b = usable s.z_max_mm in
    let c = usable s.outer_radius_mm in
    let d = usable s.bore_radius_mm in
    let e = usable s.cell_mm in
    let f = lt s.z_min_mm s.z_max_mm in
    let g = le zero64 s.bore_radius_mm in
    let h = lt s.bore_radius_mm s.outer_radius_mm in
    let i = lt zero64 s.cell_mm in
    let t8 = and_l (a && b && c && d && e && f && g && h) i t in
    let t7 = and_l (a && b && c && d && e && f && g) h t8 in
    let t6 = and_l (a && b && c && d && e && f) g t7 in
    let t5 = and_l (a && b && c && d && e) f t6 in
    let t4 = and_l (a && b && c && d) e t5 in
    let t3 = and_l (a && b && c) d t4 in
    let t2 = and_l (a && b) c t3 in
    record {
      z-min = clean-sized spec.z_min_mm held.z-min (and_l a b t2);
      z-max = clean-sized spec.z_max_mm held.z-max (and_r a b t2);
      outer = clean-sized spec.outer_radius_mm held.outer (and_r (a && b) c t3);
      bore = clean-sized spec.bore_radius_mm held.bore (and_r (a && b && c) d t4);
      cell = clean-sized spec.cell_mm held.cell (and_r (a && b && c && d) e t5);
      along = and_r (a && b && c && d && e) f t6;
      hollow = and_r (a && b && c && d && e && f) g t7;
      thick = and_r (a && b && c && d && e && f && g) h t8;
      wide = and_r (a && b && c && d && e && f && g && h) i t;
    }

-- ---- the bins
-- the limit of cells is at most 2 ^ 14; so the ends of a bin are at most 2 ^ 36 in size
abbrev pub limit_bits : ℕ
limit_bits = 14

abbrev pub bin_bits : ℕ
bin_bits = limit_bits + 22

-- the ends of a bin are at most 2 ^ 36 in size, and neither a NaN nor -0.0
pub record BinSized (z : ZRange) : Type 0 where
  pub za : Sized bin_bits z.za
  pub zb : Sized bin_bits z.zb

-- the second starts and ends no lower than the first
pub record Rises (x y : ZRange) : Type 0 where
  pub za : T (le x.za y.za)
  pub zb : T (le x.zb y.zb)

-- where a bin starts
start-sized : (s : TurnStockSpec) → Bar s → (i : ℕ) → i ≤ cell_limit → Sized (limit_bits + 21) (start_of s i)
start-sized s w i h =
    let m = within-mul (within-int {k = limit_bits} i h (lit≤ tt)) w.cell.within (lit≤ tt) in
    record {
      plain = add-plain w.z-min.plain (finite-within w.z-min.within) (finite-within m);
      within = within-add w.z-min.within m (lit≤ tt);
    }

-- where it ends, before that is cut to z_max
stop-sized : (s : TurnStockSpec) → Bar s → (i : ℕ) → i ≤ cell_limit → Sized bin_bits (start_of s i +₆₄ s.cell_mm)
stop-sized s w i h =
    let a = start-sized s w i h in
    record {
      plain = add-plain a.plain (finite-within a.within) (finite-within w.cell.within);
      within = within-add a.within w.cell.within (lit≤ tt);
    }

-- the ends of a bin, in a bar whose numbers are known
pub bar-sized : (s : TurnStockSpec) → Bar s → (i : ℕ) → i ≤ cell_limit → BinSized (bin_of s i)
unfolding bin_of
bar-sized s w i h =
    let a = start-sized s w i h in
    let b = stop-sized s w i h in
    record {
      za = record { plain = a.plain; within = within-weaken (lit≤ tt) a.within };
      zb = record { plain = least-plain b.plain w.z-max.plain; within = within-least b.within w.z-max.within };
    }

-- a later bin starts no lower
start_rises : (s : TurnStockSpec) → Bar s → (i j : ℕ) → i ≤ j → j ≤ cell_limit → T (le (start_of s i) (start_of s j))
start_rises s w i j l m =
    let I = within-int {k = limit_bits} i (Nat.le_trans l m) (lit≤ tt) in
    let J = within-int {k = limit_bits} j m (lit≤ tt) in
    let z = finite-within w.z-min.within in
    let c = finite-within w.cell.within in
    let up = lt→le number-zero (number-finite c) w.wide in
    add-mono z (finite-within (within-mul I w.cell.within (lit≤ tt))) z (finite-within (within-mul J w.cell.within (lit≤ tt))) (le-self (number-finite z)) (mul_mono (finite-within I) (finite-within J) c up (int-mono binary64 i j l))

-- a later bin starts and ends no lower
pub bar-rises : (s : TurnStockSpec) → Bar s → (i j : ℕ) → i ≤ j → j ≤ cell_limit → Rises (bin_of s i) (bin_of s j)
unfolding bin_of
bar-rises s w i j l m =
    let A = start-sized s w i (Nat.le_trans l m) in
    let B = start-sized s w j m in
    let c = finite-within w.cell.within in
    let z = number-within w.z-max.within in
    let r = start_rises s w i j l m in
    record {
      za = r;
      zb = least-mono (number-within (stop-sized s w i (Nat.le_trans l m)).within) z (number-within (stop-sized s w j m).within) z (add-mono (finite-within A.within) c (finite-within B.within) c r (le-self (number-finite c))) (le-self z);
    }

-- ---- in a spec that is not refused
module _ {spec : TurnStockSpec} {n : ℕ} (held : HeldSpec spec) (ok : Checked spec n) where
  -- its numbers are at most 2 ^ 20 in size, not -0.0, and as the rules say
  pub bar-of : Bar (clean_spec spec)
  bar-of = bar-good spec held (subst T (sym ok.good) tt)

  -- a bin of the stock is below the limit
  under : (i : ℕ) → i < n → i ≤ cell_limit
  under i h = let l = ok.few in omega arith

  -- the ends of a bin are at most 2 ^ 36 in size, and neither a NaN nor -0.0
  pub bin-within : (i : ℕ) → i < n → BinSized (bin_of (clean_spec spec) i)
  bin-within i h = bar-sized (clean_spec spec) bar-of i (under i h)

  -- a later bin starts and ends no lower
  pub bin-mono : (i j : ℕ) → i ≤ j → j < n → Rises (bin_of (clean_spec spec) i) (bin_of (clean_spec spec) j)
  bin-mono i j l h = bar-rises (clean_spec spec) bar-of i j l (under j h)
