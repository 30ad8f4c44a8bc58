-- What is seen of a stock at a height. Assumes nothing.
use Rattle.std.specs.Prelude.{None, Some}
use mathlib.Core.Path.{◌≡◌, refl, sym, ap, ◌∙◌}
use mathlib.Core.Bool.{true, false}
use mathlib.Core.List.{List}
use Prim.Native.Nat.{ℕ, ◌+◌, ◌-◌, ◌<◌}
use native.Mathlib.Omega.{arith}
use lib.Ieee.{Float, nan, inf, fin, le, lt, eq}
use Rattle.refusals.specs.Paper.{Reason, answers, refuses, onward-answers, onward-refuses}
use Rattle.floats.specs.Pick.{pick, pick_true, pick-false}
use Rattle.floats.specs.Numbers.{clean_of}
use Rattle.stock.specs.declared.TurnStockSpec.{TurnStockSpec}
use Rattle.stock.specs.Spec.{clean_spec}
use Rattle.stock.specs.Cell.{stock_of}
use Rattle.stock.proofs.Count.{stocked, checked}
use Rattle.queries.specs.declared.Band.{Band}
use Rattle.queries.specs.declared.BinSpan.{BinSpan}
use Rattle.queries.specs.Envelope.{in_range, bin_at, first_at, last_at, bins_at, shown_of, most_over, seen_at, envelope_at}

-- ---- of n cells
module _ (s : TurnStockSpec) (n : ℕ) (cs : List Float) (z : Float) where
  -- outside the z range nothing
  pub outside : in_range s z ≡ false → None ≡ seen_at s n cs z
  unfolding seen_at
  outside e = sym (pick-false _ _ _ e)

  -- within it the most over the bins that are looked at
  pub inside : {r : BinSpan} → in_range s z ≡ true → r ≡ bins_at s n z → most_over cs r.first (r.last - r.first + 1) ≡ seen_at s n cs z
  unfolding seen_at
  inside e q = ap (λ (b : BinSpan). most_over cs b.first (b.last - b.first + 1)) q ∙ sym (pick_true _ _ _ e)

  -- the bin is one of the n
  pub bin-below : 0 < n → bin_at s n z < n
  bin-below h = omega arith

-- ---- of a stock
module _ (spec : TurnStockSpec) (cs : List Float) (z : Float) where
  -- refused where the stock is
  pub envelope-refused : (k : Reason) → stock_of spec cs ≡ refuses k → envelope_at spec cs z ≡ refuses k
  unfolding envelope_at
  envelope-refused k e = rw e (onward-refuses k (λ n. answers (seen_at (clean_spec spec) n cs (clean_of z))))

  module _ (n : ℕ) (e : stock_of spec cs ≡ answers n) where
    -- what is seen of its cells
    pub at-clean : envelope_at spec cs z ≡ answers (seen_at (clean_spec spec) n cs (clean_of z))
    unfolding envelope_at
    at-clean = rw e (onward-answers n (λ m. answers (seen_at (clean_spec spec) m cs (clean_of z))))

    -- nothing outside the z range
    pub envelope-outside : in_range (clean_spec spec) (clean_of z) ≡ false → envelope_at spec cs z ≡ answers None
    envelope-outside t = at-clean ∙ ap answers (sym (outside (clean_spec spec) n cs (clean_of z) t))

    -- within it the most over the bins that are looked at
    pub envelope-inside : let s = clean_spec spec in let x = clean_of z in in_range s x ≡ true → envelope_at spec cs z ≡ answers (most_over cs (first_at s n x) (last_at s n x - first_at s n x + 1))
    envelope-inside t = at-clean ∙ ap answers (sym (inside (clean_spec spec) n cs (clean_of z) t refl))

    -- and that is a bin of the stock
    pub envelope-bin : bin_at (clean_spec spec) n (clean_of z) < n
    envelope-bin = bin-below (clean_spec spec) n cs (clean_of z) (checked spec n (stocked spec cs n e).count).some-cells

-- a band is shown if its outer radius is above its bore
pub shown-band : (b : Band) → lt b.bore b.outer ≡ true → shown_of b ≡ Some b
unfolding shown_of
shown-band b e = pick_true _ _ _ e

pub shown-none : (b : Band) → lt b.bore b.outer ≡ false → shown_of b ≡ None
unfolding shown_of
shown-none b e = pick-false _ _ _ e

-- at a NaN there is nothing
not-under-nan : (x : Float) → le x nan ≡ false
unfolding le lt eq
not-under-nan nan = refl
not-under-nan (inf s) = refl
not-under-nan (fin s m e) = refl

nan-stays : clean_of nan ≡ nan
unfolding clean_of pick eq
nan-stays = refl

pub envelope-nan : (spec : TurnStockSpec) (cs : List Float) (n : ℕ) → stock_of spec cs ≡ answers n → envelope_at spec cs nan ≡ answers None
envelope-nan spec cs n e = envelope-outside spec cs nan n e (rw (nan-stays, not-under-nan (clean_spec spec).z_min_mm) refl)
