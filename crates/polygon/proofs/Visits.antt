-- The bins of `index_range` are those that the polygon spans, and no others. Assumes nothing.
use mathlib.Core.Path.{◌≡◌, refl, sym, ap, ap₂, ◌∙◌}
use mathlib.Core.Bool.{Bool, true, false, not, ◌&&◌}
use Prim.Native.Nat.{ℕ, ◌+◌, ◌≤◌, ◌<◌, min, zero-le}
use native.Mathlib.Omega.{arith}
use lib.Dec.{leb, ltb}
use lib.Ieee.{Float}
use borrow.Author.Tests.{leb-true, leb-false, le-leb, lt-leb, lt-ltb, le-ltb}
use Rattle.floats.specs.Pick.{pick}
use Rattle.stock.specs.declared.TurnStockSpec.{TurnStockSpec}
use Rattle.stock.specs.declared.BinRange.{BinRange}
use Rattle.polygon.specs.Polygon.{index_of, beside, spans, no_bins, past_of, bins_from, bins_of}

-- a range of n bins
pub record Range (n : ℕ) (b : BinRange) : Type 0 where
  pub ordered : b.from ≤ b.to
  pub few : b.to ≤ n

-- bin i is in the range
abbrev pub In : ℕ → BinRange → Bool
In i b = leb b.from i && ltb i b.to

and_none : (b : Bool) → (b && false) ≡ false
and_none true = refl
and_none false = refl

in-none : (i : ℕ) → In i no_bins ≡ false
in-none i = ap (λ (b : Bool). leb 0 i && b) (le-ltb i 0 zero-le) ∙ and_none (leb 0 i)

range-from : (first last n : ℕ) → Range n (bins_from first (past_of last n))
unfolding bins_from past_of pick
range-from first last n = go (leb (min (last + 1) n) first) refl
  where
    go : (t : Bool) → leb (min (last + 1) n) first ≡ t → Range n (pick t no_bins (record { from = first; to = min (last + 1) n }))
    go true e = record { ordered = omega arith; few = omega arith }
    go false e = let l = leb-false (min (last + 1) n) first e in record { ordered = omega arith; few = omega arith }

in-from : (first last n i : ℕ) → i < n → In i (bins_from first (past_of last n)) ≡ (leb first i && leb i last)
unfolding bins_from past_of pick
in-from first last n i h = go (leb (min (last + 1) n) first) refl
  where
    none : min (last + 1) n ≤ first → (a b : Bool) → leb first i ≡ a → leb i last ≡ b → false ≡ (a && b)
    none l true true e f = let u = leb-true first i e in let v = leb-true i last f in absurd (omega arith)
    none l true false e f = refl
    none l false b e f = refl

    both : (b : Bool) → leb i last ≡ b → ltb i (min (last + 1) n) ≡ b
    both true f = let v = leb-true i last f in lt-ltb i (min (last + 1) n) (omega arith)
    both false f = let v = leb-false i last f in le-ltb i (min (last + 1) n) (omega arith)

    go : (t : Bool) → leb (min (last + 1) n) first ≡ t → In i (pick t no_bins (record { from = first; to = min (last + 1) n })) ≡ (leb first i && leb i last)
    go true e = in-none i ∙ none (leb-true (min (last + 1) n) first e) (leb first i) (leb i last) refl refl
    go false e = ap (λ (b : Bool). leb first i && b) (both (leb i last) refl)

module _ (s : TurnStockSpec) (lo hi : Float) (n : ℕ) where
  -- it is a range of the n bins
  pub visits-range : Range n (bins_of s lo hi n)
  unfolding bins_of pick
  visits-range = go (beside s lo hi)
    where
      go : (t : Bool) → Range n (pick t no_bins (bins_from (index_of s lo) (past_of (index_of s hi) n)))
      go true = record { ordered = omega arith; few = omega arith }
      go false = range-from (index_of s lo) (index_of s hi) n

  -- of the n bins, those in it are those that the polygon spans
  pub visits : (i : ℕ) → i < n → In i (bins_of s lo hi n) ≡ spans s lo hi i
  unfolding bins_of spans pick
  visits i h = go (beside s lo hi)
    where
      go : (t : Bool) → In i (pick t no_bins (bins_from (index_of s lo) (past_of (index_of s hi) n))) ≡ (not t && leb (index_of s lo) i && leb i (index_of s hi))
      go true = in-none i
      go false = in-from (index_of s lo) (index_of s hi) n i h

  -- a bin before it is not spanned
  pub not-before : (i : ℕ) → i < n → i < (bins_of s lo hi n).from → spans s lo hi i ≡ false
  not-before i h l = sym (visits i h) ∙ ap (λ (b : Bool). b && ltb i (bins_of s lo hi n).to) (lt-leb (bins_of s lo hi n).from i l)

  -- a bin in it is
  pub spanned : (i : ℕ) → (bins_of s lo hi n).from ≤ i → i < (bins_of s lo hi n).to → spans s lo hi i ≡ true
  spanned i l u =
      let r = visits-range in
      let h : i < n = let k = r.few in omega arith in
      sym (visits i h) ∙ ap₂ (λ (a b : Bool). a && b) (le-leb (bins_of s lo hi n).from i l) (lt-ltb i (bins_of s lo hi n).to u)

  -- a bin behind it is not
  pub not_behind : (i : ℕ) → i < n → (bins_of s lo hi n).to ≤ i → spans s lo hi i ≡ false
  not_behind i h l = sym (visits i h) ∙ ap (λ (b : Bool). leb (bins_of s lo hi n).from i && b) (le-ltb i (bins_of s lo hi n).to l) ∙ and_none (leb (bins_of s lo hi n).from i)
