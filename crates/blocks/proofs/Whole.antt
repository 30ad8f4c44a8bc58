-- A range over all heights looks at every bin, and is the join of all kept blocks. Assumes nothing.
use mathlib.Core.Path.{◌≡◌, refl, sym, ap, ◌∙◌, subst}
use mathlib.Core.Bool.{true, false, ◌&&◌}
use mathlib.Core.List.{List}
use Prim.Native.Nat.{ℕ, ◌+◌, ◌*◌, ◌-◌, min, max}
use native.Mathlib.Omega.{arith}
use native.Mathlib.Nat.{le_of_eq}
use lib.Dec.{T}
use lib.Ieee.{Float, nan, inf, fin, binary64, le, lt, eq, div}
use lib.Ieee.Scale.{finite}
use Rattle.refusals.specs.Paper.{answers}
use Rattle.refusals.specs.Limits.{block_bins, cell_limit}
use Rattle.floats.specs.Pick.{pick_true}
use Rattle.floats.specs.Numbers.{zero64, least_of, greatest_of, ◌-₆₄◌, ◌/₆₄◌}
use Rattle.floats.specs.Kinds.{Finite}
use Rattle.floats.proofs.Cleared.{zero64-is}
use Rattle.floats.proofs.Keys.{key, mag, top}
use Rattle.floats.proofs.Rounded.{rounded}
use Rattle.floats.proofs.Order.{to_le}
use Rattle.floats.proofs.Exact.{zero-key}
use Rattle.floats.proofs.Signed.{zero+, number-zero, sub_self, div-number, key-div-by, size-of-positive}
use Rattle.floats.proofs.Within.{finite-within, within-zero}
use Rattle.numbers.specs.Whole.{whole_part}
use Rattle.numbers.proofs.Wholes.{part_low, up-part}
use Rattle.stock.specs.declared.TurnStockSpec.{TurnStockSpec}
use Rattle.stock.specs.Spec.{clean_spec, cells_of, quotient}
use Rattle.stock.proofs.Bins.{HeldSpec, HeldList, Bar, bar-of}
use Rattle.stock.proofs.Count.{stocked, checked}
use Rattle.queries.specs.declared.BinSpan.{BinSpan}
use Rattle.queries.specs.Envelope.{bin_at, first_at, last_at, shown_of, most_over}
use Rattle.queries.proofs.Walks.{first-near, last-over, last-near}
use Rattle.blocks.specs.Block.{no_material, block_to, blocks_in, kept_stock}
use Rattle.blocks.specs.Range.{range_meets, range_bins, most_between}
use Rattle.blocks.specs.Way.{join_from}
use Rattle.blocks.proofs.Split.{none-fair}
use Rattle.blocks.proofs.Walks.{blocks-fold, fold-walks}
use Rattle.blocks.proofs.Stocks.{kept-stock, kept_block, ends, cell-fit}

-- ---- infinite ends
low_end : (x : Float) → T (finite x) → (greatest_of (inf true) x ≡ x) × (le (inf true) x ≡ true)
unfolding greatest_of
low_end nan h = absurd h
low_end (inf s) h = absurd h
low_end (fin s m e) h = (pick_true _ _ _ (unfold lt in refl), (unfold le lt eq in refl))

high_end : (x : Float) → T (finite x) → (least_of (inf false) x ≡ x) × (le x (inf false) ≡ true)
unfolding least_of
high_end nan h = absurd h
high_end (inf s) h = absurd h
high_end (fin s m e) h = (pick_true _ _ _ (unfold lt in refl), (unfold le lt eq in refl))

-- ---- the quotient of 0 is at most 0
zero-over : (z : Float) → Finite binary64 z → T (lt zero+ z) → T (le (div binary64 zero+ z) zero64)
zero-over z f h =
    let n = div-number (finite-within (within-zero binary64)) f (size-of-positive f h) in
    let k : key binary64 (div binary64 zero+ z) ≡ top binary64 = key-div-by (finite-within (within-zero binary64)) f h ∙ flat (λ a. rounded binary64 a (mag binary64 z)) (top binary64) (key binary64 zero+) (zero-key binary64 false) in
    subst (λ (x : Float). T (le (div binary64 zero+ z) x)) (sym zero64-is) (to_le n number-zero (le_of_eq (k ∙ sym (zero-key binary64 false))))
  where
    flat : (F : ℕ → ℕ) (o a : ℕ) → a ≡ o → o + F (a - o) - F (o - a) ≡ o
    flat F o a e = (λ i. o + F (e i - o) - F (o - e i)) ∙ (omega arith)

-- ---- a stock of n cells
module _ (spec : TurnStockSpec) (n : ℕ) (hs : HeldSpec spec) (e : cells_of spec ≡ answers n) where
  bar : Bar (clean_spec spec)
  bar = bar-of {n = n} hs (checked spec n e)

  -- the first height is in bin 0
  bottom : bin_at (clean_spec spec) n (clean_spec spec).z_min_mm ≡ 0
  bottom =
      let s = clean_spec spec in
      let c = finite-within bar.cell.within in
      let z : s.z_min_mm -₆₄ s.z_min_mm ≡ zero+ = sub_self binary64 s.z_min_mm bar.z-min.within.finite in
      let q = zero-over s.cell_mm c bar.wide in
      let p : whole_part ((s.z_min_mm -₆₄ s.z_min_mm) /₆₄ s.cell_mm) ≡ 0 =
      ap (λ (x : Float). whole_part (x /₆₄ s.cell_mm)) z ∙ part_low (div binary64 zero+ s.cell_mm) (div-number (finite-within (within-zero binary64)) c (size-of-positive c bar.wide)).held q in
      omega arith

  -- the last height is in bin n - 1
  crown : bin_at (clean_spec spec) n (clean_spec spec).z_max_mm ≡ n - 1
  crown = let u = up-part (quotient (clean_spec spec)) cell_limit n (omega arith) (checked spec n e).whole in omega arith

  -- all heights look at all bins
  pub all-bins : range_bins (clean_spec spec) n (inf true) (inf false) ≡ record { first = 0; last = n - 1 }
  all-bins =
      let s = clean_spec spec in
      let lo = (low_end s.z_min_mm bar.z-min.within.finite).0 in
      let hi = (high_end s.z_max_mm bar.z-max.within.finite).0 in
      let a = (first-near s n s.z_min_mm).0 in
      let b = last-over s n s.z_max_mm in
      let p = last-near s n s.z_min_mm (checked spec n e).some-cells in
      let q = last-near s n s.z_max_mm (checked spec n e).some-cells in
      let u = bottom in
      let v = crown in
      let f : min (first_at s n s.z_min_mm) (first_at s n s.z_max_mm) ≡ 0 = omega arith in
      let l : max (last_at s n s.z_min_mm) (last_at s n s.z_max_mm) ≡ n - 1 = omega arith in
      (λ i. record { first = min (first_at s n (lo i)) (first_at s n (hi i)); last = max (last_at s n (lo i)) (last_at s n (hi i)) }) ∙ (λ i. record { first = f i; last = l i })

  pub all-meets : range_meets (clean_spec spec) (inf true) (inf false) ≡ true
  all-meets =
      let s = clean_spec spec in
      (λ i. ends-meet i && (high_end s.z_min_mm bar.z-min.within.finite).1 i && (low_end s.z_max_mm bar.z-max.within.finite).1 i)
    where
      ends-meet : le (inf true) (inf false) ≡ true
      ends-meet = unfold le lt eq in refl

  -- OVER ALL HEIGHTS the walk is over all bins
  pub between-all : (cs : List Float) → most_between (clean_spec spec) n cs (inf true) (inf false) ≡ most_over cs 0 n
  unfolding most_between
  between-all cs =
      let k : n - 1 - 0 + 1 ≡ n = let h = (checked spec n e).some-cells in omega arith in
      pick_true _ _ _ all-meets ∙ ap (λ (r : BinSpan). most_over cs r.first (r.last - r.first + 1)) all-bins ∙ ap (λ (m : ℕ). most_over cs 0 m) k

-- and what it finds is the join of all kept blocks
pub range-whole : (spec : TurnStockSpec) (cs bs : List Float) (n : ℕ) → HeldSpec spec → HeldList cs → HeldList bs → kept_stock spec cs bs ≡ answers n
    → most_between (clean_spec spec) n cs (inf true) (inf false) ≡ shown_of (join_from (no_material (clean_spec spec)) bs 0 (blocks_in n))
range-whole spec cs bs n hs hc hb e =
    let s = clean_spec spec in
    let k = kept-stock spec cs bs n e in
    let E = ends spec cs n hs hc k.stock in
    let fit = cell-fit spec cs n hs hc k.stock in
    let count = (stocked spec cs n k.stock).count in
    let m : min (block_bins * (0 + blocks_in n)) n - block_bins * 0 ≡ n = omega arith in
    between-all spec n hs count cs
    ∙ sym (fold-walks s E (bar spec n hs count).thick cs 0 n (λ i p. fit (0 + i) (omega arith)))
    ∙ ap (λ (x : ℕ). shown_of (block_to s cs 0 x)) (sym m)
    ∙ ap shown_of (sym (blocks-fold s E n cs bs fit (kept_block spec cs n hs hc k.stock bs hb k.matched) (no_material s) (none-fair s E) 0 (blocks_in n) (omega arith) (omega arith)))
