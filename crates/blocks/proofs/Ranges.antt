-- The bins of a range, and what the way over kept numbers answers there: where they match, as a walk over these bins would. Assumes nothing.
use Rattle.std.specs.Prelude.{Option, None}
use mathlib.Core.Path.{◌≡◌, refl, sym, ap, ◌∙◌}
use mathlib.Core.Bool.{Bool, true, false, ◌&&◌}
use mathlib.Core.List.{List}
use Prim.Native.Nat.{ℕ, ◌+◌, ◌-◌, ◌≤◌, ◌<◌, min, max}
use native.Mathlib.Omega.{arith}
use borrow.Author.Tests.{ltb-true}
use lib.Dec.{ltb}
use lib.Ieee.{Float}
use Rattle.refusals.specs.Paper.{Reason, answers, refuses, papers}
use Rattle.floats.specs.Pick.{pick, pick_true, pick-false}
use Rattle.floats.specs.Numbers.{least_of, greatest_of, clean_of}
use Rattle.stock.specs.declared.TurnStockSpec.{TurnStockSpec}
use Rattle.stock.specs.Spec.{clean_spec}
use Rattle.stock.proofs.Bins.{HeldSpec, HeldList}
use Rattle.stock.proofs.Count.{stocked, checked}
use Rattle.queries.specs.declared.Band.{Band}
use Rattle.queries.specs.declared.BinSpan.{BinSpan}
use Rattle.queries.specs.Envelope.{bin_at, holds_z, last_at, bins_at, shown_of, most_over}
use Rattle.queries.proofs.Walks.{first-near, last-over, last-near}
use Rattle.blocks.specs.Block.{kept_stock}
use Rattle.blocks.specs.Range.{range_meets, bins_over, range_bins, most_between, range_of}
use Rattle.blocks.specs.Way.{kept_over, kept_between, RangeKept}
use Rattle.blocks.proofs.Stocks.{kept-stock, stock-walks}

-- ---- which bins
pub span-over : (s : TurnStockSpec) (n : ℕ) (lo hi : Float) {a b : BinSpan} {f l : ℕ} → a ≡ bins_at s n lo → b ≡ bins_at s n hi → f ≡ min a.first b.first → l ≡ max a.last b.last
    → ◌≡◌ {A = BinSpan} (record { first = f; last = l }) (bins_over s n lo hi)
span-over s n lo hi ea eb ef el = (λ i. record { first = (ef ∙ (λ j. min (ea j).first (eb j).first)) i; last = (el ∙ (λ j. max (ea j).last (eb j).last)) i })

-- the last of them has one behind it, of any n
last-room : (s : TurnStockSpec) (n : ℕ) (z : Float) → last_at s n z + 1 ≤ max n 1
unfolding last_at pick
last-room s n z = go (bin_at s n z) (omega arith) (ltb (bin_at s n z + 1) n) refl (holds_z s (bin_at s n z + 1) z)
  where
    go : (i : ℕ) → i + 1 ≤ max n 1 → (t : Bool) → ltb (i + 1) n ≡ t → (b : Bool) → pick (t && b) (i + 1) i + 1 ≤ max n 1
    go i k true e true = let w = ltb-true (i + 1) n e in omega arith
    go i k true e false = k
    go i k false e b = k

pub over-room : (s : TurnStockSpec) (n : ℕ) (lo hi : Float) (r : BinSpan) → r ≡ bins_over s n lo hi → r.last + 1 ≤ max n 1
over-room s n lo hi r e =
    let a = last-room s n lo in
    let b = last-room s n hi in
    let q : r.last ≡ max (last_at s n lo) (last_at s n hi) = ap (λ (x : BinSpan). x.last) e in
    omega arith

-- they are some of n
pub over-order : (s : TurnStockSpec) (n : ℕ) (lo hi : Float) → (bins_over s n lo hi).first ≤ (bins_over s n lo hi).last
over-order s n lo hi = omega (arith, (first-near s n lo).0, last-over s n lo)

pub over_below : (s : TurnStockSpec) (n : ℕ) (lo hi : Float) → 0 < n → (bins_over s n lo hi).last < n
over_below s n lo hi h = omega (arith, last-near s n lo h, last-near s n hi h)

-- ---- the way over the kept numbers
module _ (s : TurnStockSpec) (n : ℕ) (cs bs : List Float) (lo hi : Float) where
  pub kept-none : range_meets s lo hi ≡ false → None ≡ kept_between s n cs bs lo hi
  unfolding kept_between
  kept-none t = sym (pick-false _ _ _ t)

  pub kept-some : (from to : Float) (r : BinSpan) (k : Band) (p : Option Band) → range_meets s lo hi ≡ true → from ≡ greatest_of lo s.z_min_mm → to ≡ least_of hi s.z_max_mm → r ≡ bins_over s n from to
      → k ≡ kept_over s cs bs r.first (r.last + 1) → p ≡ shown_of k → p ≡ kept_between s n cs bs lo hi
  unfolding kept_between
  kept-some from to r k p t ef et er ek ep =
      let e : r ≡ range_bins s n lo hi = er ∙ (λ i. bins_over s n (ef i) (et i)) in
      ep ∙ ap shown_of (ek ∙ ap (λ (x : BinSpan). kept_over s cs bs x.first (x.last + 1)) e) ∙ sym (pick_true _ _ _ t)

-- ---- the query
module _ (spec : TurnStockSpec) (cs bs : List Float) (lo hi : Float) where
  pub range-refused : (k : Reason) → kept_stock spec cs bs ≡ refuses k → refuses k ≡ range_of spec cs bs lo hi
  unfolding range_of
  range-refused k q = simp (papers, q)

  pub range-answers : (n : ℕ) → kept_stock spec cs bs ≡ answers n → range_of spec cs bs lo hi ≡ answers (most_between (clean_spec spec) n cs (clean_of lo) (clean_of hi))
  unfolding range_of
  range-answers n q = simp (papers, q)

-- where the numbers match, the way over them answers as the walk over the bins does, whatever the ends
pub range-walks : (spec : TurnStockSpec) (cs bs : List Float) (n : ℕ) → HeldSpec spec → HeldList cs → HeldList bs → kept_stock spec cs bs ≡ answers n → (lo hi : Float) → kept_between (clean_spec spec) n cs bs lo hi ≡ most_between (clean_spec spec) n cs lo hi
unfolding kept_between most_between
range-walks spec cs bs n hs hc hb e lo hi =
    let s = clean_spec spec in
    let r = range_bins s n lo hi in
    let k = kept-stock spec cs bs n e in
    let o = over-order s n (greatest_of lo s.z_min_mm) (least_of hi s.z_max_mm) in
    let b = over_below s n (greatest_of lo s.z_min_mm) (least_of hi s.z_max_mm) (checked spec n (stocked spec cs n k.stock).count).some-cells in
    let m : r.last + 1 - r.first ≡ r.last - r.first + 1 = omega arith in
    ap (λ (x : Option Band). pick (range_meets s lo hi) x None)
    (stock-walks spec cs n hs hc k.stock bs hb k.matched r.first (r.last + 1) (omega arith) ∙ ap (λ (x : ℕ). most_over cs r.first x) m)

-- what `range_kept` promises
pub kept-promise : (spec : TurnStockSpec) (n : ℕ) (cs bs : List Float) (lo hi : Float) (r : Option Band) (s : TurnStockSpec) (from to : Float) → HeldSpec spec → HeldList cs → HeldList bs → s ≡ clean_spec spec → from ≡ clean_of lo → to ≡ clean_of hi
    → r ≡ kept_between s n cs bs from to → RangeKept spec n cs bs lo hi r
kept-promise spec n cs bs lo hi r s from to hs hc hb es ef et e =
    let found = e ∙ (λ i. kept_between (es i) n cs bs (ef i) (et i)) in
    record {
      found = found;
      ruled = λ k. ap answers (found ∙ range-walks spec cs bs n hs hc hb k (clean_of lo) (clean_of hi)) ∙ sym (range-answers spec cs bs lo hi n k);
    }
