-- The kept numbers of a stock, two for each block of 64 bins: the greatest upper bound of the outer surface, then the least lower bound of the bore, among its bins with material.
-- Assumes nothing.
use Rattle.std.specs.Prelude.{Bool, true, ◌&&◌, List, [], ◌∷◌, ◌++◌, ℕ, zero, suc, ◌+◌, ◌*◌, ◌-◌, ◌/◌, min, eqb, ltb, length, Float}
use Rattle.std.specs.Float.{nan}
use Rattle.std.specs.Float.Ieee.{lt, eq}
use Rattle.refusals.specs.Limits.{block_bins}
use Rattle.refusals.specs.Paper.{Paper, answers, demand, onward}
use Rattle.floats.specs.Pick.{pick}
use Rattle.floats.specs.Numbers.{clean_of}
use Rattle.stock.specs.declared.TurnStockSpec.{TurnStockSpec}
use Rattle.stock.specs.Spec.{clean_spec}
use Rattle.stock.specs.Cell.{number_at, cell_at, stock_of}
use Rattle.queries.specs.declared.Band.{Band}
use Rattle.queries.specs.Material.{band, most_of}
use Rattle.queries.specs.Envelope.{join_of}

-- ---- the fold

-- no material: the stock's outer radius for the least bore, and its bore for the greatest outer radius
abbrev pub no_material : TurnStockSpec → Band
no_material s = band s.outer_radius_mm s.bore_radius_mm

-- the band of one bin more, which counts if it has material
unfoldable pub block_with : Band → Band → Band
block_with k b = pick (lt b.bore b.outer) (join_of k b) k

-- m bins from bin a on, onto what was found before
unfoldable pub fold_from : Band → List Float → ℕ → ℕ → Band
fold_from k cs a zero = k
fold_from k cs a (suc m) = block_with (fold_from k cs a m) (most_of (cell_at cs (a + m)))

-- m bins from bin a on
abbrev pub block_to : TurnStockSpec → List Float → ℕ → ℕ → Band
block_to s cs a m = fold_from (no_material s) cs a m

-- ---- all blocks of n bins

-- as many blocks as have bins below n
abbrev pub blocks_in : ℕ → ℕ
blocks_in n = (n + (block_bins - 1)) / block_bins

-- behind the last bin of block j, whose first is bin 64 j
abbrev pub block_end : ℕ → ℕ → ℕ
block_end n j = min (block_bins * j + block_bins) n

-- block j
unfoldable pub block_of : TurnStockSpec → ℕ → List Float → ℕ → Band
block_of s n cs j = block_to s cs (block_bins * j) (block_end n j - block_bins * j)

-- a block's two numbers
abbrev pub two_of : Band → List Float
two_of b = b.outer ∷ b.bore ∷ []

-- the first b blocks, flat
unfoldable pub blocks_to : TurnStockSpec → ℕ → List Float → ℕ → List Float
blocks_to s n cs zero = []
blocks_to s n cs (suc j) = blocks_to s n cs j ++ two_of (block_of s n cs j)

-- all of them: what is kept beside the cells
abbrev pub blocks_of : TurnStockSpec → ℕ → List Float → List Float
blocks_of s n cs = blocks_to s n cs (blocks_in n)

-- ---- lent numbers that match the cells

-- block j of a list, with -0.0 read as +0.0; no numbers where the list has no such block
unfoldable pub block_at : List Float → ℕ → Band
block_at bs j = pick (ltb j (length bs / 2)) (band (clean_of (number_at bs (2 * j + 1))) (clean_of (number_at bs (2 * j)))) (band nan nan)

-- both numbers equal, as a NaN is to none
abbrev pub same_block : Band → Band → Bool
same_block a b = eq a.outer b.outer && eq a.bore b.bore

-- the first b blocks are those of the cells
unfoldable pub match_to : TurnStockSpec → ℕ → List Float → List Float → ℕ → Bool
match_to s n cs bs zero = true
match_to s n cs bs (suc j) = match_to s n cs bs j && same_block (block_at bs j) (block_of s n cs j)

-- exactly two numbers for each block, each equal to that of the cells
unfoldable pub matches_of : TurnStockSpec → ℕ → List Float → List Float → Bool
matches_of s n cs bs = eqb (length bs) (2 * blocks_in n) && match_to s n cs bs (blocks_in n)

-- the number of cells of a stock with its kept numbers; 1, 2, 3, 20
unfoldable pub kept_stock : TurnStockSpec → List Float → List Float → Paper ℕ
kept_stock spec cs bs = onward (stock_of spec cs) (λ n. demand (matches_of (clean_spec spec) n cs bs) 20 (answers n))
