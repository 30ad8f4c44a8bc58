-- Two states that a relation holds of, and the same file: it holds of what the file makes of them. Assumes nothing.
use Prim.Native.Nat.{ℕ}
use mathlib.Core.Path.{◌≡◌, refl}
use mathlib.Core.Bool.{Bool, true, false}
use mathlib.Core.List.{List, [], ◌∷◌}
use Rattle.floats.specs.Pick.{pick}
use Rattle.text.proofs.Chosen.{yes, no}
use Rattle.lines.specs.File.{ended, line_on_bytes, over_pieces}

-- a choice by the same test keeps it
pub alike-pick : {A : Type 0} (R : A → A → Type 0) (s t : Bool) (a b c d : A) → s ≡ t → R a b → R c d → R (pick s a c) (pick t b d)
alike-pick R true t a b c d e x y = rw (← e) (simp yes x)
alike-pick R false t a b c d e x y = rw (← e) (simp no y)

-- what a line, a line that is too long and the end do keeps it, and it holds of two states only where both stop or none
module _ {A : Type 0} (stopped : A → Bool) (on_line : A → List ℕ → A) (on_long : A → A) (on_end : A → A) (R : A → A → Type 0)
    (both : (a b : A) → R a b → stopped a ≡ stopped b) (lines : (a b : A) (l : List ℕ) → R a b → R (on_line a l) (on_line b l))
    (longs : (a b : A) → R a b → R (on_long a) (on_long b)) (ends : (a b : A) → R a b → R (on_end a) (on_end b)) where
  pub alike-file : (ps : List (List ℕ)) (a b : A) → R a b → R (over_pieces stopped on_line on_long on_end a ps) (over_pieces stopped on_line on_long on_end b ps)
  unfolding over_pieces line_on_bytes ended
  alike-file [] a b r = r
  alike-file (l ∷ []) a b r = alike-pick R _ _ _ _ _ _ (both a b r) r (alike-pick R _ _ _ _ _ _ refl (ends a b r) (longs a b r))
  alike-file (l ∷ m ∷ ls) a b r =
      alike-file (m ∷ ls) _ _ (alike-pick R _ _ _ _ _ _ (both a b r) r (alike-pick R _ _ _ _ _ _ refl (lines a b l r) (longs a b r)))
