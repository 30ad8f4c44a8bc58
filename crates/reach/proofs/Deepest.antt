-- What `foldl (deeper σ)` of the closed form is: one of the start and the list, and none of them lies deeper. Assumes nothing.
use mathlib.Core.Path.{◌≡◌, refl, ◌∙◌}
use mathlib.Core.Logic.{◌⊎◌, inl, inr}
use mathlib.Core.List.{List, [], ◌∷◌, foldl, Memᴰ}
use lib.Ieee.{Float, binary64}
use Rattle.floats.specs.Each.{Each}
use Rattle.floats.specs.Kinds.{Plain}
use Rattle.floats.proofs.Lattice.{least-keeps, greatest-keeps}
use Rattle.floats.proofs.Folds.{fold-least-le, fold-least-member, fold-greatest-ge, fold-greatest-member}
use Rattle.stock.specs.declared.TurnSide.{TurnSide}
use Rattle.stock.specs.declared.TurnSide.TheVariants.{Outer, Inner}
use Rattle.reach.specs.Reach.{deeper}
use Rattle.reach.specs.Kinds.{AsDeep}

-- r is one of b and the list, and lies as deep as b and as each of the list
pub record Deepest (σ : TurnSide) (b : Float) (l : List Float) (r : Float) : Type 0 where
  pub one : (r ≡ b) ⊎ Memᴰ r l
  pub start : AsDeep σ r b
  pub each : (x : Float) → Memᴰ x l → AsDeep σ r x

either : (σ : TurnSide) (a b : Float) → (deeper σ a b ≡ a) ⊎ (deeper σ a b ≡ b)
unfolding deeper
either Outer a b = least-keeps (λ (z : Float). (z ≡ a) ⊎ (z ≡ b)) (inl refl) (inr refl)
either Inner a b = greatest-keeps (λ (z : Float). (z ≡ a) ⊎ (z ≡ b)) (inl refl) (inr refl)

fold-one : (σ : TurnSide) (l : List Float) (b : Float) → (foldl (deeper σ) b l ≡ b) ⊎ Memᴰ (foldl (deeper σ) b l) l
fold-one σ [] b = inl refl
fold-one σ (x ∷ l) b = go (fold-one σ l (deeper σ b x)) (either σ b x)
  where
    r : Float
    r = foldl (deeper σ) (deeper σ b x) l

    go : (r ≡ deeper σ b x) ⊎ Memᴰ r l → (deeper σ b x ≡ b) ⊎ (deeper σ b x ≡ x) → (r ≡ b) ⊎ Memᴰ r (x ∷ l)
    go (inl e) (inl f) = inl (e ∙ f)
    go (inl e) (inr f) = inr (Memᴰ.head (e ∙ f))
    go (inr m) f = inr (Memᴰ.tail m)

-- so it is of a fold
pub deepest : (σ : TurnSide) (l : List Float) → Each (Plain binary64) l → (b : Float) → Plain binary64 b → Deepest σ b l (foldl (deeper σ) b l)
unfolding AsDeep deeper
deepest Outer l ps b q = record { one = fold-one Outer l b; start = fold-least-le l ps q; each = λ x m. fold-least-member m ps q }
deepest Inner l ps b q = record { one = fold-one Inner l b; start = fold-greatest-ge l ps q; each = λ x m. fold-greatest-member m ps q }
