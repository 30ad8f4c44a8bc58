-- What is seen at a height: never less than in the bin of z alone, the most of the bins that are looked at and no more, and less after material is removed.
-- Assumes nothing.
use Rattle.std.specs.Prelude.{Option, None, Some}
use mathlib.Core.Path.{◌≡◌, refl, sym, ap, ◌∙◌, subst}
use mathlib.Core.Bool.{Bool, true, false, not, ◌&&◌}
use mathlib.Core.List.{List}
use mathlib.Core.Logic.{◌⊎◌, inl, inr}
use Prim.Native.Nat.{ℕ, ◌+◌, ◌-◌, ◌≤◌, ◌<◌}
use native.Mathlib.Omega.{arith}
use lib.Dec.{T, ltb}
use lib.Ieee.{Float, lt, le, is_nan}
use lib.Ieee.Bits.{is_true}
use borrow.Author.Tests.{ltb-true, ltb-false}
use Rattle.refusals.specs.Paper.{answers}
use Rattle.floats.specs.Pick.{pick, pick_true}
use Rattle.floats.specs.Numbers.{minus_zero}
use Rattle.stock.specs.declared.TurnStockSpec.{TurnStockSpec}
use Rattle.stock.specs.declared.RadiusBounds.{RadiusBounds}
use Rattle.stock.specs.declared.TurnCell.{TurnCell}
use Rattle.stock.specs.Spec.{clean_spec}
use Rattle.stock.specs.Bin.{bin_of}
use Rattle.stock.specs.Cell.{cell_at, cell_fits, pair_fits_in, stock_of}
use Rattle.stock.proofs.Count.{and_both, stocked, checked}
use Rattle.stock.proofs.EachFits.{stock-fits}
use Rattle.floats.proofs.Anywhere.{le-number-l, le-number-r}
use Rattle.floats.proofs.Bounding.{le_same, lt-le-chain, le-lt-chain}
use Rattle.floats.proofs.Bools.{so}
use Rattle.queries.specs.declared.Band.{Band}
use Rattle.queries.specs.Material.{most_of}
use Rattle.queries.specs.Envelope.{in_range, bin_at, holds_z, first_at, last_at, shown_of, together, most_over, seen_at, seen_once}
use Rattle.queries.specs.Looked.{Holds, Nested, Most}
use Rattle.queries.proofs.Walks.{first-near, last-over, last-near, first-start, first-before, first_alone, last_end, last-behind, last-alone}
use Rattle.queries.proofs.Envelopes.{shown-band}
use Rattle.queries.proofs.Looks.{shown-is, shown-thick, nothing, found, case, walk-within, asked-most, asked-none, none-asked}

-- how many bins are looked at, from first_at on
abbrev pub looked : TurnStockSpec → ℕ → Float → ℕ
looked s n z = last_at s n z - first_at s n z + 1

none-not : {A : Type 0} {x : Band} → ◌≡◌ {A = Option Band} None (Some x) → A
none-not e = let y : ◌≡◌ {A = ℕ} 0 1 = cc in absurd (omega arith)

module _ (s : TurnStockSpec) (n : ℕ) (cs : List Float) (z : Float) where
  -- ---- exactly what the bins that are looked at show

  -- an answer is the most of them, at a height within the stock
  pub seen_most : (b : Band) → seen_at s n cs z ≡ Some b → (in_range s z ≡ true) × Most cs (first_at s n z) (looked s n z) b
  unfolding seen_at
  seen_most = asked-most (in_range s z) cs (first_at s n z) (looked s n z)

  -- nothing is seen within the stock where none of them holds material
  pub seen_none : seen_at s n cs z ≡ None → in_range s z ≡ true → (i : ℕ) (c : Band) → Holds cs (first_at s n z) (looked s n z) i c → ⊥
  unfolding seen_at
  seen_none = asked-none (in_range s z) cs (first_at s n z) (looked s n z)

  -- and where none does, and outside, nothing is seen
  pub none_seen : (in_range s z ≡ true → (i : ℕ) (c : Band) → Holds cs (first_at s n z) (looked s n z) i c → ⊥) → seen_at s n cs z ≡ None
  unfolding seen_at
  none_seen = none-asked (in_range s z) cs (first_at s n z) (looked s n z)

  -- ---- beside the bin of z alone

  own-bin : (c : Band) → seen_once s n cs z ≡ Some c → (in_range s z ≡ true) × Holds cs (first_at s n z) (looked s n z) (bin_at s n z) c
  unfolding seen_once pick
  own-bin c e = go (in_range s z) refl e
    where
      go : (t : Bool) → in_range s z ≡ t → pick t (shown_of (most_of (cell_at cs (bin_at s n z)))) None ≡ Some c → (in_range s z ≡ true) × Holds cs (first_at s n z) (looked s n z) (bin_at s n z) c
      go true p q = (p, record { from = (first-near s n z).0; to = omega (arith, (first-near s n z).0, last-over s n z); shown = q })
      go false p q = none-not q

  -- what its own bin shows lies within what is seen
  pub seen_more : (c : Band) → seen_once s n cs z ≡ Some c → (b : Band) × (seen_at s n cs z ≡ Some b) × Nested c b
  seen_more c e =
      let h = own-bin c e in
      elim (case (seen_at s n cs z)) [
        | nothing p ↦ absurd (seen_none p h.0 (bin_at s n z) c h.1)
        | found b p ↦ (b, p, (seen_most b p).1.within (bin_at s n z) c h.1)
      ]

  -- where nothing is seen its own bin shows nothing
  pub seen-none-once : seen_at s n cs z ≡ None → seen_once s n cs z ≡ None
  seen-none-once e = elim (case (seen_once s n cs z)) [
    | nothing p ↦ p
    | found c p ↦ let h = own-bin c p in absurd (seen_none e h.0 (bin_at s n z) c h.1)
  ]

  -- where neither neighbour holds z, the answer is that of its own bin
  pub seen_same : (0 < bin_at s n z → holds_z s (bin_at s n z - 1) z ≡ false) → (bin_at s n z + 1 < n → holds_z s (bin_at s n z + 1) z ≡ false) → seen_at s n cs z ≡ seen_once s n cs z
  unfolding seen_at seen_once most_over together
  seen_same p q = rw (sym first, sym last) (ap (λ (k : ℕ). pick (in_range s z) (most_over cs (bin_at s n z) k) None) one ∙ ap (λ (i : ℕ). pick (in_range s z) (shown_of (most_of (cell_at cs i))) None) plus)
    where
      first : bin_at s n z ≡ first_at s n z
      first = go (ltb 0 (bin_at s n z)) refl
        where
          go : (t : Bool) → ltb 0 (bin_at s n z) ≡ t → bin_at s n z ≡ first_at s n z
          go true e = first_alone s n z (bin_at s n z) refl (p (ltb-true 0 (bin_at s n z) e))
          go false e = first-start s n z (bin_at s n z) refl (omega (arith, ltb-false 0 (bin_at s n z) e))

      last : bin_at s n z ≡ last_at s n z
      last = go (ltb (bin_at s n z + 1) n) refl
        where
          go : (t : Bool) → ltb (bin_at s n z + 1) n ≡ t → bin_at s n z ≡ last_at s n z
          go true e = last-alone s n z (bin_at s n z) refl (q (ltb-true (bin_at s n z + 1) n e))
          go false e = last_end s n z (bin_at s n z) refl (ltb-false (bin_at s n z + 1) n e)

      one : bin_at s n z - bin_at s n z + 1 ≡ 1
      one = omega arith

      plus : bin_at s n z + 0 ≡ bin_at s n z
      plus = omega arith

  -- ---- on the edge between two bins

  both_true : (a b : Bool) → T a → T b → (a && b) ≡ true
  both_true true true p q = refl
  both_true true false p q = absurd q
  both_true false b p q = absurd p

  -- a bin that is not turned about holds its two ends
  module _ (j : ℕ) (f : T (le (bin_of s j).za (bin_of s j).zb)) where
    holds-end : z ≡ (bin_of s j).zb → holds_z s j z ≡ true
    holds-end e =
        both_true (le (bin_of s j).za z) (le z (bin_of s j).zb)
        (subst (λ (x : Float). T (le (bin_of s j).za x)) (sym e) f)
        (subst (λ (x : Float). T (le z x)) e (le_same z (subst (λ (x : Float). is_nan x ≡ false) (sym e) (le-number-r (bin_of s j).za (bin_of s j).zb f))))

    holds-start : z ≡ (bin_of s j).za → holds_z s j z ≡ true
    holds-start e =
        both_true (le (bin_of s j).za z) (le z (bin_of s j).zb)
        (subst (λ (x : Float). T (le x z)) e (le_same z (subst (λ (x : Float). is_nan x ≡ false) (sym e) (le-number-l (bin_of s j).za (bin_of s j).zb f))))
        (subst (λ (x : Float). T (le x (bin_of s j).zb)) (sym e) f)

  -- where z is the end of one and the start of the next, neither turned about, and the bin of z is one of the two, both are looked at
  pub seen-edge : (i : ℕ) → 0 < i → i < n → z ≡ (bin_of s i).za → z ≡ (bin_of s (i - 1)).zb → T (le (bin_of s (i - 1)).za (bin_of s (i - 1)).zb) → T (le (bin_of s i).za (bin_of s i).zb)
      → (bin_at s n z ≡ i) ⊎ (bin_at s n z ≡ i - 1) → (first_at s n z ≤ i - 1) × (i ≤ last_at s n z)
  seen-edge i p q a e f g (inl h) =
      let low : i - 1 ≡ first_at s n z = first-before s n z i (sym h) (λ y. omega (arith, p, y)) (holds-end (i - 1) f e) in
      (omega (arith, low), omega (arith, last-over s n z, h))
  seen-edge i p q a e f g (inr h) =
      let next : i - 1 + 1 ≡ i = omega (arith, p) in
      let up : i - 1 + 1 ≡ last_at s n z = last-behind s n z (i - 1) (sym h) (omega (arith, p, q)) (subst (λ (j : ℕ). holds_z s j z ≡ true) (sym next) (holds-start i g a)) in
      (omega (arith, (first-near s n z).0, h), omega (arith, up, next))

-- ---- an answer is a band of the stock

-- an outer radius above the bore, both within the spec's, neither -0.0
pub record BandFits (s : TurnStockSpec) (b : Band) : Type 0 where
  pub thick : T (lt b.bore b.outer)
  pub bore-within : T (le s.bore_radius_mm b.bore)
  pub outer-within : T (le b.outer s.outer_radius_mm)
  pub bore-unsigned : minus_zero b.bore ≡ false
  pub outer-unsigned : minus_zero b.outer ≡ false

not-false : (b : Bool) → not b ≡ true → b ≡ false
not-false true e = sym e
not-false false e = refl

-- what a pair that fits says of its two bounds
pair_fits : (s : TurnStockSpec) (b : RadiusBounds) → pair_fits_in s b ≡ true
    → (T (le s.bore_radius_mm b.lower_mm) × (minus_zero b.lower_mm ≡ false)) × (T (le b.upper_mm s.outer_radius_mm) × (minus_zero b.upper_mm ≡ false))
pair_fits s b e =
    let A = le s.bore_radius_mm b.lower_mm in
    let B = le b.lower_mm b.upper_mm in
    let C = le b.upper_mm s.outer_radius_mm in
    let D = not (minus_zero b.lower_mm) in
    let E = not (minus_zero b.upper_mm) in
    let p = and_both (A && B && C && D) E e in
    let q = and_both (A && B && C) D p.0 in
    let r = and_both (A && B) C q.0 in
    ((so (and_both A B r.0).0, not-false _ q.1), (so r.1, not-false _ p.1))

module _ (spec : TurnStockSpec) (n : ℕ) (cs : List Float) (e : stock_of spec cs ≡ answers n) (z : Float) where
  -- a bin that is looked at is one of the stock, and its cell fits
  cell-there : (i : ℕ) (c : Band) → Holds cs (first_at (clean_spec spec) n z) (looked (clean_spec spec) n z) i c → cell_fits (clean_spec spec) (cell_at cs i) ≡ true
  cell-there i c h =
      let some-cells = (checked spec n (stocked spec cs n e).count).some-cells in
      stock-fits spec cs n e i (omega (arith, h.to, (first-near (clean_spec spec) n z).0, last-over (clean_spec spec) n z, last-near (clean_spec spec) n z some-cells))

  pub seen-band : (b : Band) → seen_at (clean_spec spec) n cs z ≡ Some b → BandFits (clean_spec spec) b
  unfolding cell_fits
  seen-band b f =
      let s = clean_spec spec in
      let m = (seen_most s n cs z b f).1 in
      let low = pair_fits s (cell_at cs m.bore_bin).inner (and_both (pair_fits_in s (cell_at cs m.bore_bin).outer) (pair_fits_in s (cell_at cs m.bore_bin).inner) (cell-there m.bore_bin m.bore_band m.bore_there)).1 in
      let high = pair_fits s (cell_at cs m.outer_bin).outer (and_both (pair_fits_in s (cell_at cs m.outer_bin).outer) (pair_fits_in s (cell_at cs m.outer_bin).inner) (cell-there m.outer_bin m.outer_band m.outer_there)).0 in
      let bore : (cell_at cs m.bore_bin).inner.lower_mm ≡ b.bore = ap (λ (x : Band). x.bore) (shown-is _ _ m.bore_there.shown).1 ∙ m.bore_same in
      let outer : (cell_at cs m.outer_bin).outer.upper_mm ≡ b.outer = ap (λ (x : Band). x.outer) (shown-is _ _ m.outer_there.shown).1 ∙ m.outer_same in
      let w = m.within m.bore_bin m.bore_band m.bore_there in record {
        thick = lt-le-chain b.bore m.bore_band.outer b.outer (subst (λ (x : Float). T (lt x m.bore_band.outer)) m.bore_same (shown-thick _ _ m.bore_there.shown)) w.outer;
        bore-within = subst (λ (x : Float). T (le s.bore_radius_mm x)) bore low.0.0;
        outer-within = subst (λ (x : Float). T (le x s.outer_radius_mm)) outer high.1.0;
        bore-unsigned = subst (λ (x : Float). minus_zero x ≡ false) bore low.0.1;
        outer-unsigned = subst (λ (x : Float). minus_zero x ≡ false) outer high.1.1;
      }

-- ---- after material is removed

-- the outer upper bound of a cell did not rise, and its inner lower bound did not fall
pub record Less (c c' : TurnCell) : Type 0 where
  pub outer : T (le c'.outer.upper_mm c.outer.upper_mm)
  pub inner : T (le c.inner.lower_mm c'.inner.lower_mm)

module _ (cs cs' : List Float) where
  -- a bin that holds material held it before, in a band about it
  held-before : (i : ℕ) (c : Band) → Less (cell_at cs i) (cell_at cs' i) → shown_of (most_of (cell_at cs' i)) ≡ Some c → (shown_of (most_of (cell_at cs i)) ≡ Some (most_of (cell_at cs i))) × Nested c (most_of (cell_at cs i))
  held-before i c l e =
      let q = shown-is (most_of (cell_at cs' i)) c e in
      let thick = le-lt-chain _ _ _ l.inner (lt-le-chain _ _ _ q.0 l.outer) in
      (shown-band _ (is_true _ thick), subst (λ (x : Band). Nested x (most_of (cell_at cs i))) q.1 (record { bore = l.inner; outer = l.outer }))

  -- so a walk over the same bins shows nothing, or a band within the one before
  pub walk-less : (a k : ℕ) → ((i : ℕ) → a ≤ i → i < a + k → Less (cell_at cs i) (cell_at cs' i)) → (b' : Band) → most_over cs' a k ≡ Some b' → (b : Band) × (most_over cs a k ≡ Some b) × Nested b' b
  walk-less a k f = walk-within cs' cs a k a k (λ i c h.
      let q = held-before i c (f i h.from h.to) h.shown in
      (most_of (cell_at cs i), record { from = h.from; to = h.to; shown = q.0 }, q.1))

  -- and at a height nothing is seen, or a band within the one before
  pub seen-less : (s : TurnStockSpec) (n : ℕ) (z : Float) → 0 < n → ((i : ℕ) → i < n → Less (cell_at cs i) (cell_at cs' i)) → (b' : Band) → seen_at s n cs' z ≡ Some b' → (b : Band) × (seen_at s n cs z ≡ Some b) × Nested b' b
  unfolding seen_at
  seen-less s n z h f b' e =
      let p : in_range s z ≡ true = (seen_most s n cs' z b' e).0 in
      let shown : most_over cs' (first_at s n z) (looked s n z) ≡ Some b' = sym (pick_true _ _ _ p) ∙ e in
      let r = walk-less (first_at s n z) (looked s n z) (λ i u v. f i (omega (arith, u, v, (first-near s n z).0, last-over s n z, last-near s n z h))) b' shown in
      (r.0, pick_true _ _ _ p ∙ r.1, r.2)
