-- The bins' ends rise, so that a line parts them in two: those that are passed, and the others. Assumes nothing.
use mathlib.Core.Path.{◌≡◌, refl, sym, ap, ◌∙◌, subst}
use mathlib.Core.Bool.{Bool, true, false, ◌||◌}
use Prim.Native.Nat.{ℕ, zero, suc, ◌+◌, ◌-◌, ◌≤◌, ◌<◌}
use native.Mathlib.Numerals.{add-one}
use native.Mathlib.Omega.{arith}
use borrow.Author.Tests.{lt-ltb, ltb-true, le-ltb}
use lib.Dec.{T, not_T, T_not, ltb}
use lib.Ieee.{Float, binary64, fits, le, lt, eq}
use lib.Ieee.Bits.{is_true}
use Rattle.floats.specs.Pick.{pick, pick_true, pick-false}
use Rattle.floats.proofs.Order.{le_trans, le_lt_trans, lt-le-trans}
use Rattle.floats.proofs.Within.{number-within, number-l, number-r}
use Rattle.stock.specs.declared.TurnStockSpec.{TurnStockSpec}
use Rattle.stock.specs.Bin.{bin_of}
use Rattle.stock.specs.Spec.{clean_spec}
use Rattle.stock.proofs.Count.{Checked}
use Rattle.stock.proofs.Bins.{HeldSpec, bin-within, bin-mono}
use Rattle.cuts.specs.Rows.{passed_of, before_of, onward_of, Graded, Split, Between}
use Rattle.floats.proofs.Bools.{so}

lt-le : (x y : Float) → T (lt x y) → T (le x y)
unfolding le
lt-le x y h = go (lt x y) (eq x y) h
  where
    go : (a b : Bool) → T a → T (a || b)
    go true b t = tt
    go false b t = absurd t

-- so they are in a spec that is checked
pub graded : {spec : TurnStockSpec} {n : ℕ} → HeldSpec spec → Checked spec n → Graded (clean_spec spec) n
graded held ok = record {
  few = ok.few;
  starts = λ i h. number-within (bin-within held ok i h).za.within;
  stops = λ i h. number-within (bin-within held ok i h).zb.within;
  start_rises = λ i j h l. (bin-mono held ok i j h l).za;
  stop_rises = λ i j h l. (bin-mono held ok i j h l).zb;
}

module _ {s : TurnStockSpec} {n : ℕ} (G : Graded s n) (e : Float) (f : T (fits binary64 e)) where
  -- where a bin is passed, so are those before it
  passed-falls : (ends touch : Bool) (i j : ℕ) → i ≤ j → j < n → passed_of s e ends touch j ≡ true → passed_of s e ends touch i ≡ true
  unfolding passed_of pick
  passed-falls true true i j h l p =
      let q : T (lt (bin_of s j).zb e) = so p in
      is_true _ (le_lt_trans (G.stops i (omega arith)) (G.stops j l) (number-r (bin_of s j).zb e f (lt-le (bin_of s j).zb e q)) (G.stop_rises i j h l) q)
  passed-falls true false i j h l p =
      let q : T (le (bin_of s j).zb e) = so p in
      is_true _ (le_trans (G.stops i (omega arith)) (G.stops j l) (number-r (bin_of s j).zb e f q) (G.stop_rises i j h l) q)
  passed-falls false true i j h l p =
      is_true _ (not_T (lt e (bin_of s i).za) (λ k. T_not (lt e (bin_of s j).za) (so p) (lt-le-trans (number-l e (bin_of s i).za f (lt-le e (bin_of s i).za k)) (G.starts i (omega arith)) (G.starts j l) k (G.start_rises i j h l))))
  passed-falls false false i j h l p =
      is_true _ (not_T (le e (bin_of s i).za) (λ k. T_not (le e (bin_of s j).za) (so p) (le_trans (number-l e (bin_of s i).za f k) (G.starts i (omega arith)) (G.starts j l) k (G.start_rises i j h l))))

  -- so where bin g is the first that is not passed, they are parted there
  pub split : (ends touch : Bool) (g : ℕ) → g ≤ n → before_of s e ends touch g ≡ true → onward_of s e ends touch n g ≡ false → Split (passed_of s e ends touch) n g
  unfolding before_of onward_of
  split ends touch g h p q = record {
    within = h;
    below = below g h p;
    above = λ j k l. dark (passed_of s e ends touch j) (λ t. clash (pick_true _ _ _ (lt-ltb g n (omega arith)) ∙ passed-falls ends touch g j k l t) q);
  }
    where
      below : (g : ℕ) → g ≤ n → before_of s e ends touch g ≡ true → (j : ℕ) → j < g → passed_of s e ends touch j ≡ true
      below zero h p j k = absurd (omega arith)
      below (suc g) h p j k = passed-falls ends touch j g (omega arith) (omega arith) p

      dark : (b : Bool) → (b ≡ true → ⊥) → b ≡ false
      dark true k = absurd (k refl)
      dark false k = refl

      clash : {b : Bool} → b ≡ true → b ≡ false → ⊥
      clash u v = subst T (sym u ∙ v) tt

module _ (s : TurnStockSpec) (e : Float) (ends touch : Bool) where
  -- a bin before which one is not passed is not the first
  pub before-pos : (g : ℕ) → before_of s e ends touch g ≡ false → 0 < g
  unfolding before_of
  before-pos zero h = absurd (subst T h tt)
  before-pos (suc g) h = omega arith

  -- behind a bin that is passed
  pub before-next : (g : ℕ) → passed_of s e ends touch g ≡ true → before_of s e ends touch (g + 1) ≡ true
  unfolding before_of
  before-next g h = rw add-one h

  pub before-none : (g : ℕ) → g ≡ 0 → before_of s e ends touch g ≡ true
  unfolding before_of
  before-none zero h = refl
  before-none (suc g) h = absurd (omega arith)

  pub before-some : (g : ℕ) → (g ≡ 0 → ⊥) → before_of s e ends touch g ≡ passed_of s e ends touch (g - 1)
  unfolding before_of
  before-some zero h = absurd (h refl)
  before-some (suc g) h = ap (passed_of s e ends touch) (let w : g ≡ suc g - 1 = omega arith in w)

  -- bin g of n
  pub onward-in : (n g : ℕ) → g < n → onward_of s e ends touch n g ≡ passed_of s e ends touch g
  unfolding onward_of
  onward-in n g h = pick_true _ _ _ (lt-ltb g n h)

  pub onward-past : (n g : ℕ) → n ≤ g → onward_of s e ends touch n g ≡ false
  unfolding onward_of
  onward-past n g h = pick-false _ _ _ (le-ltb g n h)

  pub onward-lt : (n g : ℕ) → onward_of s e ends touch n g ≡ true → (g < n) × (passed_of s e ends touch g ≡ true)
  unfolding onward_of pick
  onward-lt n g h = go (ltb g n) refl h
    where
      go : (t : Bool) → ltb g n ≡ t → pick t (passed_of s e ends touch g) false ≡ true → (g < n) × (passed_of s e ends touch g ≡ true)
      go true w k = (ltb-true g n w, k)
      go false w k = absurd (subst T (sym k) tt)

-- ---- the bins between two lines
module _ {P Q : ℕ → Bool} {n a b : ℕ} (A : Split P n a) (B : Split Q n b) where
  pub between-some : a ≤ b → Between P Q n a b
  between-some h =
      let w = B.within in
      record {
        ordered = h;
        within = w;
        under = A.below;
        inside = λ j k l. (A.above j k (omega arith), B.below j l);
        over = B.above;
      }

  pub between_none : b < a → Between P Q n a a
  between_none h = record {
    ordered = omega arith;
    within = A.within;
    under = A.below;
    inside = λ j k l. absurd (omega arith);
    over = λ j k l. B.above j (omega arith) l;
  }
