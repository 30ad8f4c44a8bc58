-- What a range answers: at one height what is seen there, exactly the most of its bins, no less over more bins, no more after a cut, and over all heights the fold of all blocks.
-- Assumes nothing.
use Rattle.std.specs.Prelude.{None, Some}
use mathlib.Core.Path.{◌≡◌, refl, sym, ap, ◌∙◌}
use mathlib.Core.Bool.{Bool, true, false, ◌&&◌}
use mathlib.Core.List.{List}
use Prim.Native.Nat.{ℕ, ◌+◌, ◌-◌, ◌≤◌, ◌<◌, min, max}
use native.Mathlib.Omega.{arith}
use lib.Dec.{T}
use lib.Ieee.{Float, le}
use lib.Ieee.Bits.{is_true}
use Rattle.refusals.specs.Paper.{answers}
use Rattle.floats.specs.Pick.{pick, pick_true, pick-false}
use Rattle.floats.specs.Numbers.{least_of, greatest_of, clean_of}
use Rattle.stock.specs.declared.TurnStockSpec.{TurnStockSpec}
use Rattle.stock.specs.Spec.{clean_spec}
use Rattle.stock.specs.Cell.{cell_at}
use Rattle.stock.proofs.Count.{and_both}
use Rattle.floats.proofs.Anywhere.{le-number-r}
use Rattle.floats.proofs.Bounding.{le_same, clash}
use Rattle.floats.proofs.Bools.{so, to-false}
use Rattle.queries.specs.declared.Band.{Band}
use Rattle.queries.specs.declared.BinSpan.{BinSpan}
use Rattle.queries.specs.Envelope.{in_range, first_at, last_at, most_over, seen_at, envelope_at}
use Rattle.queries.specs.Looked.{Holds, Nested, Most}
use Rattle.queries.proofs.Envelopes.{at-clean}
use Rattle.queries.proofs.Looks.{bore-number, outer-number, nested-self, walk-within, asked-most, asked-none, none-asked}
use Rattle.queries.proofs.Sights.{Less, walk-less}
use Rattle.blocks.specs.Block.{kept_stock}
use Rattle.blocks.specs.Range.{range_meets, range_bins, most_between, range_of}
use Rattle.blocks.proofs.Stocks.{kept-stock}
use Rattle.blocks.proofs.Ranges.{over-order, over_below, range-answers}

-- ---- one height

-- of two numbers the one that is no less, and the one that is no greater
greatest-first : (a b : Float) → T (le b a) → greatest_of a b ≡ a
unfolding greatest_of
greatest-first a b h = pick-false _ _ _ (to-false _ (λ k. clash a b k h))

least_first : (a b : Float) → T (le a b) → least_of a b ≡ a
unfolding least_of
least_first a b h = pick-false _ _ _ (to-false _ (λ k. clash b a k h))

no_part : (x a b : Bool) → (a && b) ≡ false → (x && a && b) ≡ false
no_part true a b e = e
no_part false a b e = refl

-- of n cells
pub between-point : (s : TurnStockSpec) (n : ℕ) (cs : List Float) (z : Float) → most_between s n cs z z ≡ seen_at s n cs z
unfolding most_between seen_at
between-point s n cs z = go (in_range s z) refl
  where
    go : (t : Bool) → in_range s z ≡ t → pick (range_meets s z z) (most_over cs (range_bins s n z z).first ((range_bins s n z z).last - (range_bins s n z z).first + 1)) None ≡ pick (in_range s z) (most_over cs (first_at s n z) (last_at s n z - first_at s n z + 1)) None
    go true e =
        let b = and_both (le s.z_min_mm z) (le z s.z_max_mm) e in
        let low = so b.0 in
        let high = so b.1 in
        let own : le z z ≡ true = is_true _ (le_same z (le-number-r s.z_min_mm z low)) in
        let meets : range_meets s z z ≡ true = rw own e in
        let f : (range_bins s n z z).first ≡ first_at s n z = (λ i. min (first_at s n (greatest-first z s.z_min_mm low i)) (first_at s n (least_first z s.z_max_mm high i))) ∙ (omega arith) in
        let l : (range_bins s n z z).last ≡ last_at s n z = (λ i. max (last_at s n (greatest-first z s.z_min_mm low i)) (last_at s n (least_first z s.z_max_mm high i))) ∙ (omega arith) in
        pick_true _ _ _ meets ∙ (λ i. most_over cs (f i) (l i - f i + 1)) ∙ sym (pick_true _ _ _ e)
    go false e = pick-false _ _ _ (no_part (le z z) (le s.z_min_mm z) (le z s.z_max_mm) e) ∙ sym (pick-false _ _ _ e)

-- A RANGE OF ONE HEIGHT answers as `envelope_at` does there
pub range-point : (spec : TurnStockSpec) (cs bs : List Float) (n : ℕ) (z : Float) → kept_stock spec cs bs ≡ answers n → range_of spec cs bs z z ≡ envelope_at spec cs z
range-point spec cs bs n z e =
    range-answers spec cs bs z z n e ∙ ap answers (between-point (clean_spec spec) n cs (clean_of z)) ∙ sym (at-clean spec cs z n (kept-stock spec cs bs n e).stock)

-- ---- exactly what its bins show

-- how many bins a range has
abbrev pub bin_count : BinSpan → ℕ
bin_count r = r.last - r.first + 1

module _ (s : TurnStockSpec) (n : ℕ) (cs : List Float) (lo hi : Float) where
  -- AN ANSWER is the most of the bins of the range: some of them with material has its bore, some has its outer radius, and each such bin lies within it
  pub range-most : (b : Band) → most_between s n cs lo hi ≡ Some b → (range_meets s lo hi ≡ true) × Most cs (range_bins s n lo hi).first (bin_count (range_bins s n lo hi)) b
  unfolding most_between
  range-most = asked-most (range_meets s lo hi) cs (range_bins s n lo hi).first (bin_count (range_bins s n lo hi))

  -- NOTHING is answered where the ends say so, or where none of the bins has material, and nowhere else
  pub range_none : most_between s n cs lo hi ≡ None → range_meets s lo hi ≡ true → (i : ℕ) (c : Band) → Holds cs (range_bins s n lo hi).first (bin_count (range_bins s n lo hi)) i c → ⊥
  unfolding most_between
  range_none = asked-none (range_meets s lo hi) cs (range_bins s n lo hi).first (bin_count (range_bins s n lo hi))

  pub none-range : (range_meets s lo hi ≡ true → (i : ℕ) (c : Band) → Holds cs (range_bins s n lo hi).first (bin_count (range_bins s n lo hi)) i c → ⊥) → most_between s n cs lo hi ≡ None
  unfolding most_between
  none-range = none-asked (range_meets s lo hi) cs (range_bins s n lo hi).first (bin_count (range_bins s n lo hi))

  -- ---- more bins, and less material

  asked : (b : Band) → most_between s n cs lo hi ≡ Some b → most_over cs (range_bins s n lo hi).first (bin_count (range_bins s n lo hi)) ≡ Some b
  unfolding most_between
  asked b e = sym (pick_true _ _ _ (range-most b e).0) ∙ e

  -- A RANGE whose bins lie among those of another answers nothing, or a band within the other's
  pub range-wider : (lo' hi' : Float) → range_meets s lo' hi' ≡ true → (range_bins s n lo' hi').first ≤ (range_bins s n lo hi).first → (range_bins s n lo hi).last ≤ (range_bins s n lo' hi').last
      → (b : Band) → most_between s n cs lo hi ≡ Some b → (b' : Band) × (most_between s n cs lo' hi' ≡ Some b') × Nested b b'
  unfolding most_between
  range-wider lo' hi' t f l b e =
      let r = range_bins s n lo hi in
      let r' = range_bins s n lo' hi' in
      let o = over-order s n (greatest_of lo s.z_min_mm) (least_of hi s.z_max_mm) in
      let w = walk-within cs cs r.first (bin_count r) r'.first (bin_count r')
      (λ i c h. (c, record { from = omega (arith, h.from); to = omega (arith, h.to); shown = h.shown }, nested-self c (bore-number _ c h.shown) (outer-number _ c h.shown))) b (asked b e) in
      (w.0, pick_true _ _ _ t ∙ w.1, w.2)

  -- AFTER MATERIAL IS REMOVED the same range answers nothing, or a band within the one before
  pub range-less : (cs' : List Float) → 0 < n → ((i : ℕ) → i < n → Less (cell_at cs' i) (cell_at cs i)) → (b : Band) → most_between s n cs lo hi ≡ Some b → (b' : Band) × (most_between s n cs' lo hi ≡ Some b') × Nested b b'
  unfolding most_between
  range-less cs' h f b e =
      let r = range_bins s n lo hi in
      let o = over-order s n (greatest_of lo s.z_min_mm) (least_of hi s.z_max_mm) in
      let u = over_below s n (greatest_of lo s.z_min_mm) (least_of hi s.z_max_mm) h in
      let w = walk-less cs' cs r.first (bin_count r) (λ i p q. f i (omega arith)) b (asked b e) in
      (w.0, pick_true _ _ _ (range-most b e).0 ∙ w.1, w.2)
