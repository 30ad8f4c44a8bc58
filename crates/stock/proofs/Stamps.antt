-- Stamps: two are the same exactly where both numbers are. Assumes nothing.
use Rattle.std.proofs.Common.{◌≡◌, Bool, true, false, ◌&&◌, eqb, refl, ap, ◌∙◌, ap₂, eq-eqb, ne_eqb, eqb-true}
use Rattle.stock.proofs.Count.{and_both}
use Rattle.stock.specs.declared.Stamp.{Stamp}
use Rattle.stock.specs.Stock.{stamp_of, same_stamp}

-- a stamp is its own
pub own-stamp : (a : Stamp) → same_stamp a a ≡ true
unfolding same_stamp
own-stamp a = ap₂ ◌&&◌ (eq-eqb a.edition a.edition refl) (eq-eqb a.generation a.generation refl)

-- the same: both numbers are
pub stamps-agree : (a b : Stamp) → same_stamp a b ≡ true → a ≡ b
unfolding same_stamp
stamps-agree a b e =
    let t = and_both (eqb a.edition b.edition) (eqb a.generation b.generation) e in
    ap₂ stamp_of (eqb-true _ _ t.0) (eqb-true _ _ t.1)

-- another edition, or another generation: not the same
pub other-edition : (a b : Stamp) → (a.edition ≡ b.edition → ⊥) → same_stamp a b ≡ false
unfolding same_stamp
other-edition a b h = ap (λ (t : Bool). t && eqb a.generation b.generation) (ne_eqb a.edition b.edition h)

pub other-generation : (a b : Stamp) → (a.generation ≡ b.generation → ⊥) → same_stamp a b ≡ false
unfolding same_stamp
other-generation a b h = ap (λ (t : Bool). eqb a.edition b.edition && t) (ne_eqb a.generation b.generation h) ∙ none (eqb a.edition b.edition)
  where
    none : (t : Bool) → (t && false) ≡ false
    none true = refl
    none false = refl
