-- What a polygon reaches in a bin, by what a walk over the bins finds there. Assumes nothing.
use Rattle.std.specs.Prelude.{Option, None, Some}
use mathlib.Core.Path.{◌≡◌, refl, sym, ap, ap₂, ◌∙◌, subst}
use mathlib.Core.Bool.{Bool, true, false, ◌&&◌, ◌||◌}
use mathlib.Core.List.{List}
use Prim.Native.Nat.{ℕ, ◌/◌}
use lib.Dec.{T}
use lib.ListN.{length}
use lib.Ieee.{Float, binary64, fits, lt, le, eq}
use Rattle.floats.specs.Pick.{pick, pick_true, pick-false}
use Rattle.floats.specs.Numbers.{least_of, greatest_of, clean_of}
use Rattle.floats.proofs.Order.{of_eq, key-unique}
use Rattle.floats.proofs.Within.{number-l, number-r}
use Rattle.floats.proofs.Cleared.{clean-plain, clean-key}
use Rattle.stock.specs.declared.TurnStockSpec.{TurnStockSpec}
use Rattle.stock.specs.declared.TurnSide.{TurnSide}
use Rattle.stock.specs.declared.ZRange.{ZRange}
use Rattle.stock.specs.Bin.{bin_of}
use Rattle.reach.specs.Low.{lower_of, upper_of}
use Rattle.reach.specs.declared.Reach.TheVariants.{Passed}
use Rattle.reach.specs.Reach.{reach_from}
use Rattle.reach.specs.declared.Swept.{Swept}
use Rattle.polygon.specs.declared.Span.{Span}
use Rattle.polygon.specs.Polygon.{lowest_to, lowest_of, extent_of, spans, lows_from, raised, high_from, Sweeps, low_in, high_in, skips, swept_reach, reach_over, polygon_reach, polygon_act}
use Rattle.polygon.proofs.First.{and_both, greatest-first, least_first}

-- ---- samples

or_right : (a b : Bool) → T b → T (a || b)
or_right true b t = tt
or_right false b t = t

-- equal values are the same one where -0.0 is read as +0.0
pub clean-equal : (z w : Float) → T (fits binary64 z) → T (fits binary64 w) → eq z w ≡ true → clean_of z ≡ clean_of w
unfolding le
clean-equal z w hz hw e =
    let t : T (eq z w) = subst T (sym e) tt in
    let l : T (le z w) = or_right (lt z w) (eq z w) t in
    let p = number-l z w hz l in
    let q = number-r z w hw l in
    key-unique (clean-plain p) (clean-plain q) (clean-key p ∙ of_eq p q t ∙ sym (clean-key q))

-- the lowest at z and at an equal value are the same: a sample at the end of a bin serves the next bin where that starts at an equal z
pub same-sample : (ps : List Float) (side : TurnSide) (z w : Float) → T (fits binary64 z) → T (fits binary64 w) → eq z w ≡ true → lowest_of ps side z ≡ lowest_of ps side w
unfolding lowest_of
same-sample ps side z w hz hw e = ap (λ (x : Float). lowest_to ps side (length ps / 2) x (length ps / 2)) (clean-equal z w hz hw e)

-- where lo..hi covers the bin, the samples at the ends brought into lo..hi are those at the ends
module _ (ps : List Float) (side : TurnSide) (b : ZRange) (lo hi : Float) where
  covered : (excess : Float) (t : Bool) → (le lo b.za && le b.zb hi) ≡ t → pick t (raised excess (upper_of (lowest_of ps side (greatest_of b.za lo)) (lowest_of ps side (least_of b.zb hi)))) None ≡ pick t (raised excess (upper_of (lowest_of ps side b.za) (lowest_of ps side b.zb))) None
  unfolding pick
  covered excess true e =
      let t = and_both (le lo b.za) (le b.zb hi) e in
      ap₂ (λ (x y : Float). raised excess (upper_of (lowest_of ps side x) (lowest_of ps side y))) (greatest-first b.za lo t.0) (least_first b.zb hi t.1)
  covered excess false e = refl

  -- the high of the samples brought into lo..hi is the high over the bin
  pub high-samples : (excess : Float) → high_from excess b lo hi (lowest_of ps side (greatest_of b.za lo)) (lowest_of ps side (least_of b.zb hi)) ≡ high_in ps side excess b lo hi
  unfolding high_in high_from
  high-samples excess = covered excess (le lo b.za && le b.zb hi) refl

-- ---- bin by bin
module _ (s : TurnStockSpec) (side : TurnSide) (excess : Float) (ps : List Float) (i : ℕ) where
  -- no points
  pub reach-nothing : extent_of ps ≡ None → polygon_reach s side excess ps i ≡ Passed
  unfolding polygon_reach reach_over
  reach-nothing h = rw h

  module _ (e : Span) (h : extent_of ps ≡ Some e) where
    -- a bin that is not visited
    pub reach-unspanned : spans s e.lo e.hi i ≡ false → polygon_reach s side excess ps i ≡ Passed
    unfolding polygon_reach reach_over
    reach-unspanned n = ap (reach_over s side excess ps i) h ∙ pick-false _ _ _ n

    visited : spans s e.lo e.hi i ≡ true → polygon_reach s side excess ps i ≡ swept_reach side excess ps (bin_of s i) e
    unfolding polygon_reach reach_over
    visited v = ap (reach_over s side excess ps i) h ∙ pick_true _ _ _ v

    -- a bin that is skipped
    pub reach-skipped : skips (bin_of s i) e.lo e.hi ≡ true → polygon_reach s side excess ps i ≡ Passed
    unfolding polygon_reach reach_over swept_reach pick
    reach-skipped k = ap (reach_over s side excess ps i) h ∙ go (spans s e.lo e.hi i)
      where
        go : (t : Bool) → pick t (swept_reach side excess ps (bin_of s i) e) Passed ≡ Passed
        go true = pick_true _ _ _ k
        go false = refl

    -- any other, by the samples at its ends and what `swept_in` answers of them
    pub reach-swept : spans s e.lo e.hi i ≡ true → skips (bin_of s i) e.lo e.hi ≡ false → (start end : Option Float) (r : Swept)
        → start ≡ lowest_of ps side (greatest_of (bin_of s i).za e.lo) → end ≡ lowest_of ps side (least_of (bin_of s i).zb e.hi)
        → Sweeps ps side excess (bin_of s i) e.lo e.hi start end r
        → reach_from side (r.low) (r.high) ≡ polygon_reach s side excess ps i
    unfolding swept_reach low_in
    reach-swept v k start end r a z w =
        let b = bin_of s i in
        let low : r.low ≡ low_in ps side b e.lo e.hi = w.low ∙ ap₂ (λ (x y : Option Float). lows_from ps side b (lower_of x y)) a z in
        let high : r.high ≡ high_in ps side excess b e.lo e.hi = w.high ∙ ap₂ (high_from excess b e.lo e.hi) a z ∙ high-samples ps side b e.lo e.hi excess in
        ap₂ (reach_from side) low high ∙ sym (visited v ∙ pick-false _ _ _ k)

-- ---- the cut
module _ (s : TurnStockSpec) (side : TurnSide) (excess : Float) (ps : List Float) where
  -- its side
  pub act-side : (polygon_act s side excess ps).side ≡ side
  unfolding polygon_act
  act-side = refl

  -- what it reaches; the excess is read with +0.0 for -0.0
  pub act-at : (i : ℕ) → (polygon_act s side excess ps).at i ≡ polygon_reach s side (clean_of excess) ps i
  unfolding polygon_act
  act-at i = refl
