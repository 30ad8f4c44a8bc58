-- What several cuts of one side leave of a cell, in one step: the closed form of demand 3. Assumes nothing.
use Rattle.std.specs.Prelude.{ℕ, Float}
use mathlib.Core.List.{List, [], ◌∷◌, ◌++◌, map, foldl}
use Rattle.stock.specs.declared.TurnCell.{TurnCell}
use Rattle.stock.specs.declared.TurnSide.{TurnSide}
use Rattle.reach.specs.declared.Reach.{Reach}
use Rattle.reach.specs.declared.Reach.TheVariants.{Passed, Low, Both}
use Rattle.reach.specs.Reach.{deeper, deep_of, sure_of, with_pair, own_of, Act}

abbrev pub gather : {A B : Type 0} → (A → List B) → List A → List B
gather f [] = []
gather f (x ∷ l) = f x ++ gather f l

abbrev pub lows_of : Reach → List Float
lows_of Passed = []
lows_of (Low x) = x ∷ []
lows_of (Both x y) = x ∷ []

abbrev pub highs_of : Reach → List Float
highs_of Passed = []
highs_of (Low x) = []
highs_of (Both x y) = y ∷ []

-- each bound of the side is the deepest (outside the least, inside the greatest) of its start and the own bounds; the pair is then ordered
unfoldable pub closed : TurnSide → TurnCell → List Reach → TurnCell
closed σ c own =
    let deep = foldl (deeper σ) (deep_of σ c) (gather lows_of own) in
    let sure = foldl (deeper σ) (sure_of σ c) (gather highs_of own) in
    with_pair σ (deeper σ deep sure) sure c

-- the own bounds of the cuts in bin i, over the cell c
abbrev pub owns_at : TurnSide → TurnCell → ℕ → List Act → List Reach
owns_at σ c i l = map (λ (a : Act). own_of σ c (a.at i)) l
