-- A polygon, bin by bin: what its walk leaves in the rows is what the rule says of it. Assumes nothing.
use Rattle.std.specs.Prelude.{None, Option}
use mathlib.Core.Path.{◌≡◌, refl, sym, ap, ◌∙◌, subst}
use mathlib.Core.Bool.{true, false}
use mathlib.Core.List.{List}
use Prim.Native.Nat.{ℕ, ◌+◌, ◌≤◌, ◌<◌}
use native.Mathlib.Decide.{dec_le}
use native.Mathlib.Omega.{arith}
use lib.Ieee.{Float}
use Rattle.floats.specs.Numbers.{least_of, greatest_of, clean_of}
use Rattle.stock.specs.declared.TurnStockSpec.{TurnStockSpec}
use Rattle.stock.specs.declared.TurnSide.{TurnSide}
use Rattle.stock.specs.declared.ZRange.{ZRange}
use Rattle.stock.specs.Bin.{bin_of}
use Rattle.reach.specs.declared.Swept.{Swept}
use Rattle.reach.specs.declared.Reach.{Reach}
use Rattle.reach.specs.declared.Reach.TheVariants.{Passed}
use Rattle.reach.specs.Reach.{reach_from}
use Rattle.stock.specs.declared.BinRange.{BinRange}
use Rattle.polygon.specs.Polygon.{lowest_of, extent_of, spans, bins_of, skips, Sweeps, polygon_reach, polygon_act}
use Rattle.polygon.proofs.Visits.{visits-range, not-before, not_behind}
use Rattle.polygon.proofs.Reaches.{reach-nothing, reach-unspanned, reach-skipped, reach-swept}
use Rattle.cuts.specs.Rows.{no_row, Extends, PutRow, Crosses, Crossed, Says}

-- an empty row says that the bin is passed over
pub says_nothing : (side : TurnSide) (f : Swept) → f ≡ no_row → reach_from side f.low f.high ≡ Passed
unfolding reach_from
says_nothing side f e = rw e

module _ (s : TurnStockSpec) (side : TurnSide) (excess : Float) (ps : List Float) (lo hi : Float) (ex : Extends ps lo hi) (i : ℕ) (b : ZRange) (eb : b ≡ bin_of s i) {old : ℕ → Swept} where
  -- a bin that is skipped
  pub cross-skipped : skips b lo hi ≡ true → old i ≡ no_row → Crosses side (polygon_reach s side excess ps) old old i
  cross-skipped h e = record {
    here = says_nothing side (old i) e ∙ sym (reach-skipped s side excess ps i _ ex (ap (λ (z : ZRange). skips z lo hi) (sym eb) ∙ h));
    others = λ j n. refl;
  }

  -- any other
  pub cross-swept : {new : ℕ → Swept} → spans s lo hi i ≡ true → skips b lo hi ≡ false → (start stop : Option Float) (r : Swept) → start ≡ lowest_of ps side (greatest_of b.za lo) → stop ≡ lowest_of ps side (least_of b.zb hi) → Sweeps ps side excess b lo hi start stop r → PutRow old new i r → Crosses side (polygon_reach s side excess ps) old new i
  cross-swept v h start stop r a z w p = record {
    here =
        ap (λ (f : Swept). reach_from side f.low f.high) p.here
        ∙ reach-swept s side excess ps i _ ex v (ap (λ (y : ZRange). skips y lo hi) (sym eb) ∙ h) start stop r
        (a ∙ ap (λ (y : ZRange). lowest_of ps side (greatest_of y.za lo)) eb)
        (z ∙ ap (λ (y : ZRange). lowest_of ps side (least_of y.zb hi)) eb)
        (subst (λ (y : ZRange). Sweeps ps side excess y lo hi start stop r) eb w);
    others = p.others;
  }

-- ---- the walk
pub crossed-none : (side : TurnSide) (reach : ℕ → Reach) (first : ℕ) (old : ℕ → Swept) → Crossed side reach first first old old
crossed-none side reach first old = record { inside = λ j a b. absurd (omega arith); under = λ j a. refl; over = λ j a. refl }

pub crossed-more : {side : TurnSide} {reach : ℕ → Reach} {first i : ℕ} {old new next : ℕ → Swept} → first ≤ i → Crossed side reach first i old new → Crosses side reach new next i → Crossed side reach first (i + 1) old next
crossed-more {side} {reach} {first} {i} {old} {new} {next} f w u = record {
  inside = λ j a b. go j a (dec_le i j) b;
  under = λ j a. u.others j (λ e. omega arith) ∙ w.under j a;
  over = λ j a. u.others j (λ e. omega arith) ∙ w.over j (omega arith);
}
  where
    go : (j : ℕ) → first ≤ j → Dec (i ≤ j) → j < i + 1 → reach_from side (next j).low (next j).high ≡ reach j
    go j a (yes p) b =
        let e : j ≡ i = omega arith in
        subst (λ (k : ℕ). reach_from side (next k).low (next k).high ≡ reach k) (sym e) u.here
    go j a (no p) b = ap (λ (f : Swept). reach_from side f.low f.high) (u.others j (λ e. p (omega arith))) ∙ w.inside j a (omega arith)

-- ---- all bins
module _ (s : TurnStockSpec) (n : ℕ) (side : TurnSide) (excess : Float) (ps : List Float) where
  -- no points
  pub says_none : {new : ℕ → Swept} → extent_of ps ≡ None → Says (polygon_act s side excess ps) n 0 0 new
  unfolding polygon_act
  says_none h = record {
    ordered = omega arith;
    within = omega arith;
    under = λ j a b. absurd (omega arith);
    inside = λ j a b. absurd (omega arith);
    over = λ j a b. reach-nothing s side (clean_of excess) ps j h;
  }

  -- the bins of the range were walked, and the others are not visited
  module _ (lo hi : Float) (ex : Extends ps lo hi) {old new : ℕ → Swept} (x : Float) (e : x ≡ clean_of excess) where
    pub says-crossed : (bins : BinRange) → bins ≡ bins_of s lo hi n → Crossed side (polygon_reach s side x ps) bins.from bins.to old new → Says (polygon_act s side excess ps) n bins.from bins.to new
    unfolding polygon_act
    says-crossed bins eb w =
        let from : bins.from ≡ (bins_of s lo hi n).from = ap (λ (b : BinRange). b.from) eb in
        let to : bins.to ≡ (bins_of s lo hi n).to = ap (λ (b : BinRange). b.to) eb in
        let v = visits-range s lo hi n in
        record {
          ordered = omega (arith, from, to, v.ordered);
          within = omega (arith, to, v.few);
          under = λ j a l. reach-unspanned s side (clean_of excess) ps j _ ex (not-before s lo hi n j l (omega (arith, from)));
          inside = λ j a b. w.inside j a b ∙ ap (λ (y : Float). polygon_reach s side y ps j) e;
          over = λ j a l. reach-unspanned s side (clean_of excess) ps j _ ex (not_behind s lo hi n j l (omega (arith, to)));
        }
