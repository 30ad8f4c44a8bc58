-- Kept numbers worked out of the cells: all of them, or those of the blocks in which some bins lie. Assumes nothing.
use Rattle.std.specs.Prelude.{◌≡◌, ℕ, ◌*◌, ◌/◌, eqb, ltb, length, take, Float, Result}
use mathlib.Core.List.{List, foldl, map}
use Rattle.std.proofs.lemmas.List.Edits.{sets}
use Rattle.refusals.specs.Number.{paper_of}
use Rattle.refusals.specs.declared.Refusal.{Refusal}
use Rattle.refusals.specs.Limits.{block_bins}
use Rattle.refusals.specs.Lent.{Lent}
use Rattle.refusals.specs.Paper.{Paper, answers, refuses, demand, onward}
use Rattle.floats.specs.Pick.{pick}
use Rattle.floats.specs.Numbers.{clean_of}
use Rattle.stock.specs.declared.TurnStockSpec.{TurnStockSpec}
use Rattle.stock.specs.Spec.{clean_spec}
use Rattle.stock.specs.Cell.{stock_of}
use Rattle.queries.specs.declared.Band.{Band}
use Rattle.blocks.specs.Block.{two_of, blocks_in, block_of, blocks_of}

-- ---- all blocks

-- the lent numbers afterwards: all blocks of the cells if there are exactly two for each, else as they were
unfoldable pub renewed_all : TurnStockSpec → ℕ → List Float → List Float → List Float
renewed_all s n cs bs = pick (eqb (length bs) (2 * blocks_in n)) (blocks_of s n cs) bs

-- how many cells there are to work them out of; 1, 2, 3, and 20 where the lent numbers are not two for each block
unfoldable pub renew_of : TurnStockSpec → List Float → ℕ → Paper ℕ
renew_of spec cs len = onward (stock_of spec cs) (λ n. demand (eqb len (2 * blocks_in n)) 20 (answers n))

-- the lent numbers afterwards: all blocks of the cells, or as they were
abbrev pub blocks_after : TurnStockSpec → List Float → Paper ℕ → List Float → List Float
blocks_after spec cs (answers n) bs = blocks_of (clean_spec spec) n cs
blocks_after spec cs (refuses r) bs = bs

-- the answer and the lent numbers after `renew`
pub record Renewed (spec : TurnStockSpec) (cs : List Float) (r : Result ℕ Refusal) (bs bs' : List Float) : Type 0 where
  pub answer : paper_of r ≡ renew_of spec cs (length bs)
  pub numbers : bs' ≡ blocks_after spec cs (renew_of spec cs (length bs)) bs

-- of lent numbers, at both moments
abbrev pub Renews : TurnStockSpec → List Float → (Result ℕ Refusal) → Lent Float → Type 0
Renews spec cs r blocks = Renewed spec cs r blocks.entry.now blocks.exit.now

-- ---- the blocks of some bins

-- a list with b as block j, if it has that block
unfoldable pub put_block : List Float → ℕ → Band → List Float
put_block bs j b = pick (ltb j (length bs / 2)) (sets bs (2 * j) (two_of b)) bs

-- block j worked out of the cells, if n bins have it
unfoldable pub renew_at : TurnStockSpec → ℕ → List Float → List Float → ℕ → List Float
renew_at s n cs bs j = pick (ltb j (blocks_in n)) (put_block bs j (block_of s n cs j)) bs

-- while bins are gone through: the lent numbers, and the block in which the last bin lies, which is still to be worked out
pub record Open : Type 0 where
  pub numbers : List Float
  pub block : ℕ

-- one bin more: where it lies in another block, the open one is worked out
unfoldable pub leave_for : TurnStockSpec → ℕ → List Float → Open → ℕ → Open
leave_for s n cs o i =
    record {
      numbers = pick (eqb o.block (i / block_bins)) o.numbers (renew_at s n cs o.numbers o.block);
      block = i / block_bins;
    }

-- the bins of a list in turn, from no open block on
abbrev pub open_after : TurnStockSpec → ℕ → List Float → List Float → List ℕ → Open
open_after s n cs bs is = foldl (leave_for s n cs) (record { numbers = bs; block = blocks_in n }) is

-- and the last open block
unfoldable pub renew_over : TurnStockSpec → ℕ → List Float → List Float → List ℕ → List Float
renew_over s n cs bs is = renew_at s n cs (open_after s n cs bs is).numbers (open_after s n cs bs is).block

-- what is left after changes of the first k bins of a list: each number cleared, and the blocks of these bins worked out
abbrev pub renewed_for : TurnStockSpec → ℕ → List Float → List ℕ → ℕ → List Float → List Float
renewed_for s n cs is k bs = renew_over s n cs (map clean_of bs) (take k is)

-- the answer and the lent numbers after one bin more
pub record LeavesBlocks (s : TurnStockSpec) (n : ℕ) (cs : List Float) (o : Open) (i r : ℕ) (bs' : List Float) : Type 0 where
  pub block : r ≡ (leave_for s n cs o i).block
  pub numbers : bs' ≡ (leave_for s n cs o i).numbers

-- of lent numbers, at both moments
abbrev pub LeavesFor : TurnStockSpec → ℕ → List Float → ℕ → ℕ → ℕ → Lent Float → Type 0
LeavesFor s n cs last i r blocks = LeavesBlocks s n cs (record { numbers = blocks.entry.now; block = last }) i r blocks.exit.now
