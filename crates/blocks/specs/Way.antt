-- The way over the kept numbers: whole blocks by their two numbers, the other bins by their cells. Where the numbers match the cells this is what `range_of` says (proofs/Ranges). Assumes nothing.
use Rattle.std.specs.Prelude.{◌≡◌, List, ℕ, zero, suc, ◌+◌, ◌*◌, ◌-◌, ◌/◌, ltb, Float, Option, None}
use Rattle.refusals.specs.Limits.{block_bins}
use Rattle.refusals.specs.Paper.{answers}
use Rattle.floats.specs.Pick.{pick}
use Rattle.floats.specs.Numbers.{clean_of}
use Rattle.stock.specs.declared.TurnStockSpec.{TurnStockSpec}
use Rattle.stock.specs.Spec.{clean_spec}
use Rattle.queries.specs.declared.Band.{Band}
use Rattle.queries.specs.declared.BinSpan.{BinSpan}
use Rattle.queries.specs.Envelope.{join_of, shown_of}
use Rattle.blocks.specs.Block.{fold_from, block_to, blocks_in, block_at, kept_stock}
use Rattle.blocks.specs.Range.{range_meets, range_bins, range_of}

-- m kept blocks from block j on, onto what was found before
unfoldable pub join_from : Band → List Float → ℕ → ℕ → Band
join_from k bs j zero = k
join_from k bs j (suc m) = join_of (join_from k bs j m) (block_at bs (j + m))

-- the bins from a up to e: by cells up to the first whole block, by kept numbers over the whole blocks, by cells behind the last; by cells alone where none is whole
unfoldable pub kept_over : TurnStockSpec → List Float → List Float → ℕ → ℕ → Band
kept_over s cs bs a e =
    pick (ltb (blocks_in a) (e / block_bins))
    (fold_from (join_from (block_to s cs a (block_bins * blocks_in a - a)) bs (blocks_in a) (e / block_bins - blocks_in a)) cs (block_bins * (e / block_bins)) (e - block_bins * (e / block_bins)))
    (block_to s cs a (e - a))

-- the same over some bins
abbrev pub kept_from : TurnStockSpec → List Float → List Float → BinSpan → Option Band
kept_from s cs bs r = shown_of (kept_over s cs bs r.first (r.last + 1))

-- and over a range of heights
unfoldable pub kept_between : TurnStockSpec → ℕ → List Float → List Float → Float → Float → Option Band
kept_between s n cs bs lo hi = pick (range_meets s lo hi) (kept_from s cs bs (range_bins s n lo hi)) None

-- what `range_kept` answers: what the way says of any numbers, and where those of a stock match its n cells, what the rule says
pub record RangeKept (spec : TurnStockSpec) (n : ℕ) (cs bs : List Float) (lo hi : Float) (r : Option Band) : Type 0 where
  pub found : r ≡ kept_between (clean_spec spec) n cs bs (clean_of lo) (clean_of hi)
  pub ruled : kept_stock spec cs bs ≡ answers n → answers r ≡ range_of spec cs bs lo hi
