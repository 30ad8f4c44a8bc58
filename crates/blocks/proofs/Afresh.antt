-- After changes of cells: a block in which no changed bin lies is as it was. Assumes nothing.
use mathlib.Core.Path.{◌≡◌, refl, ap, ◌∙◌}
use mathlib.Core.Logic.{◌⊎◌, inl, inr}
use mathlib.Core.Bool.{Bool, true, false}
use mathlib.Core.List.{List, [], ◌∷◌, foldl}
use Prim.Native.Nat.{ℕ, ◌+◌, ◌*◌, ◌-◌, ◌/◌, ◌≤◌, ◌<◌}
use native.Mathlib.Omega.{arith}
use borrow.Author.Tests.{ltb-true, ltb-false}
use lib.Dec.{ltb}
use lib.ListN.{length}
use lib.Ieee.{Float}
use Rattle.floats.specs.Each.{Each}
use Rattle.refusals.specs.Limits.{block_bins}
use Rattle.stock.specs.declared.TurnStockSpec.{TurnStockSpec}
use Rattle.stock.specs.declared.TurnCell.{TurnCell}
use Rattle.stock.specs.declared.TurnChange.{TurnChange}
use Rattle.stock.specs.Cell.{cell_at, put_cell}
use Rattle.stock.proofs.Cells.{put-none}
use Rattle.stock.proofs.Stored.{stored_other}
use Rattle.blocks.specs.Block.{no_material, block_end, block_of}
use Rattle.blocks.proofs.Split.{fold_same}

-- one number is below another or not
pub below : (a b : ℕ) → (a < b) ⊎ (b ≤ a)
below a b = go (ltb a b) refl
  where
    go : (t : Bool) → ltb a b ≡ t → (a < b) ⊎ (b ≤ a)
    go true q = inl (ltb-true a b q)
    go false q = inr (ltb-false a b q)

-- a cell put into another bin, whether the list has that bin or not
put_other : (cs : List Float) (i : ℕ) (x : TurnCell) (j : ℕ) → (j < i) ⊎ (i < j) → cell_at (put_cell cs i x) j ≡ cell_at cs j
put_other cs i x j h = go (below (length cs) (4 * i + 4))
  where
    go : (length cs < 4 * i + 4) ⊎ (4 * i + 4 ≤ length cs) → cell_at (put_cell cs i x) j ≡ cell_at cs j
    go (inl p) = ap (λ (l : List Float). cell_at l j) (put-none cs i x p)
    go (inr p) = stored_other cs i x p j h

-- bin i is not among the bins of block j
abbrev pub Outside : ℕ → ℕ → Type 0
Outside j i = i / block_bins ≡ j → ⊥

-- one change outside a block
pub block-put : (s : TurnStockSpec) (n : ℕ) (cs : List Float) (j i : ℕ) (x : TurnCell) → Outside j i → block_of s n (put_cell cs i x) j ≡ block_of s n cs j
unfolding block_of
block-put s n cs j i x o = fold_same (no_material s) (put_cell cs i x) cs (block_bins * j) (block_end n j - block_bins * j) (λ m p. put_other cs i x (block_bins * j + m) (side m (omega arith)))
  where
    apart : (m : ℕ) → m < block_bins → (block_bins * j + m ≡ i → ⊥)
    apart m p e = o (omega arith)

    side : (m : ℕ) → m < block_bins → (block_bins * j + m < i) ⊎ (i < block_bins * j + m)
    side m p = go (below (block_bins * j + m) i)
      where
        go : (block_bins * j + m < i) ⊎ (i ≤ block_bins * j + m) → (block_bins * j + m < i) ⊎ (i < block_bins * j + m)
        go (inl q) = inl q
        go (inr q) = let a = apart m p in inr (omega arith)

-- a list of changes outside a block: the cells afterwards are `put_all` of crate `changes`
pub blocks-left : (s : TurnStockSpec) (n : ℕ) (j : ℕ) (l : List TurnChange) (cs : List Float) → Each (λ (c : TurnChange). Outside j c.index) l
    → block_of s n (foldl (λ (x : List Float) (c : TurnChange). put_cell x c.index c.after) cs l) j ≡ block_of s n cs j
blocks-left s n j [] cs os = refl
blocks-left s n j (c ∷ l) cs os = blocks-left s n j l (put_cell cs c.index c.after) os.1 ∙ block-put s n cs j c.index c.after os.0
