-- What is written of two stocks: its parts, when there is nothing, and with the stocks exchanged. Assumes nothing.
use Prim.Native.Nat.{ℕ, ◌<◌}
use native.Mathlib.Omega.{arith}
use mathlib.Core.Path.{◌≡◌, refl, sym, ap, ap₂, ◌∙◌}
use mathlib.Core.Bool.{Bool, true, false, ◌&&◌}
use mathlib.Core.List.{List, [], ◌++◌}
use lib.Ieee.{Float}
use Rattle.floats.specs.Each.{Each}
use Rattle.stock.specs.Cell.{cell_at, same_cell}
use Rattle.rings.specs.Ring.{covered}
use Rattle.rings.specs.Points.{Disjoint}
use Rattle.rings.proofs.Cover.{Full}
use Rattle.lines.specs.File.{joined}
use Rattle.side_by_side.specs.Compared.{Side, bin_texts, bin_count, ring_texts, left_texts, left_all, each_in_hand, both_in_hand, chunks_of}
use Rattle.side_by_side.proofs.Cells.{joined-append, no-append, bins-silent, silent-bins}
use Rattle.side_by_side.proofs.Points.{both, left-texts, no_lines, none_left, left-none}

no-rings : ring_texts [] ≡ []
unfolding ring_texts
no-rings = refl

abbrev pub bins_of : Side → Side → List (List ℕ)
bins_of a b = bin_texts (bin_count a.cells b.cells) a.cells b.cells (bin_count a.cells b.cells)

-- all that is written: the lines of cells, the rings left of the first's, those left of the second's
pub written : (a b : Side) → both_in_hand a b ≡ true
    → joined (chunks_of a b) ≡ joined (bins_of a b) ++ (ring_texts (left_all b.rings a.rings) ++ ring_texts (left_all a.rings b.rings))
unfolding chunks_of
written a b h =
    let k = both (each_in_hand b.rings a.rings) (each_in_hand a.rings b.rings) h in
    joined-append (bins_of a b) (left_texts b.rings a.rings ++ left_texts a.rings b.rings)
    ∙ ap (λ (x : List ℕ). joined (bins_of a b) ++ x) (joined-append (left_texts b.rings a.rings) (left_texts a.rings b.rings) ∙ ap₂ ◌++◌ (left-texts b.rings a.rings k.0) (left-texts a.rings b.rings k.1))

-- every bin's cells are equal
abbrev pub SameCells : Side → Side → Type 0
SameCells a b = (i : ℕ) → i < bin_count a.cells b.cells → same_cell (cell_at a.cells i) (cell_at b.cells i) ≡ true

-- both cover the same points
abbrev pub SamePoints : Side → Side → Type 0
SamePoints a b = (z r : Float) → covered a.rings z r ≡ covered b.rings z r

module _ (a b : Side) (f : Each Full a.rings) (g : Each Full b.rings) (d : Disjoint a.rings) (e : Disjoint b.rings) where
  -- no ring is left of either where they cover the same points
  pub same_none : SamePoints a b → (left_all b.rings a.rings ≡ []) × (left_all a.rings b.rings ≡ [])
  same_none s = (none_left b.rings a.rings g f e d (λ z r h. sym (s z r) ∙ h), none_left a.rings b.rings f g d e (λ z r h. s z r ∙ h))

  -- and only there
  pub none-same : left_all b.rings a.rings ≡ [] → left_all a.rings b.rings ≡ [] → SamePoints a b
  none-same u v z r = go (covered a.rings z r) refl (covered b.rings z r) refl
    where
      go : (s : Bool) → covered a.rings z r ≡ s → (t : Bool) → covered b.rings z r ≡ t → covered a.rings z r ≡ covered b.rings z r
      go true x true y = x ∙ sym y
      go false x false y = x ∙ sym y
      go true x false y =
          let w : covered b.rings z r ≡ true = left-none b.rings a.rings g f e d u z r x in
          let o : ◌≡◌ {A = ℕ} 0 1 = cc in
          absurd (omega arith)
      go false x true y =
          let w : covered a.rings z r ≡ true = left-none a.rings b.rings f g d e v z r y in
          let o : ◌≡◌ {A = ℕ} 0 1 = cc in
          absurd (omega arith)

  pub silent : both_in_hand a b ≡ true → SameCells a b → SamePoints a b → joined (chunks_of a b) ≡ []
  silent h s p =
      let n = same_none p in
      written a b h
      ∙ ap₂ ◌++◌ (bins-silent (bin_count a.cells b.cells) a.cells b.cells (bin_count a.cells b.cells) s) (ap₂ ◌++◌ (ap ring_texts n.0 ∙ no-rings) (ap ring_texts n.1 ∙ no-rings))

  pub silence : both_in_hand a b ≡ true → joined (chunks_of a b) ≡ [] → SameCells a b × SamePoints a b
  silence h o =
      let k = no-append (joined (bins_of a b)) (ring_texts (left_all b.rings a.rings) ++ ring_texts (left_all a.rings b.rings)) (sym (written a b h) ∙ o) in
      let l = no-append (ring_texts (left_all b.rings a.rings)) (ring_texts (left_all a.rings b.rings)) k.1 in
      (silent-bins (bin_count a.cells b.cells) a.cells b.cells (bin_count a.cells b.cells) k.0, none-same (no_lines (left_all b.rings a.rings) l.0) (no_lines (left_all a.rings b.rings) l.1))

-- ---- exchanged
and-turned : (s t : Bool) → (s && t) ≡ (t && s)
and-turned true true = refl
and-turned true false = refl
and-turned false true = refl
and-turned false false = refl

-- 11 does not depend on which stock comes first
pub in-hand-turned : (a b : Side) → both_in_hand b a ≡ both_in_hand a b
in-hand-turned a b = and-turned (each_in_hand a.rings b.rings) (each_in_hand b.rings a.rings)

pub bins-turned : (a b : Side) → bin_count b.cells a.cells ≡ bin_count a.cells b.cells
bins-turned a b = omega arith

-- the parts of the rings change places
pub written-turned : (a b : Side) → both_in_hand a b ≡ true
    → joined (chunks_of b a) ≡ joined (bins_of b a) ++ (ring_texts (left_all a.rings b.rings) ++ ring_texts (left_all b.rings a.rings))
written-turned a b h = written b a (in-hand-turned a b ∙ h)
