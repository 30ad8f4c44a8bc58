-- The ends of some bins, by which the kept numbers of a block whose bins all have material are told: proved equal to `same_block` of the fold (proofs/Lots); need not be believed.
-- Assumes nothing.
use Rattle.std.specs.Prelude.{Bool, ◌&&◌, List, ℕ, zero, suc, ◌+◌, ◌*◌, Float}
use Rattle.std.specs.Float.Ieee.{lt, eq}
use Rattle.floats.specs.Numbers.{◌+₆₄◌, least_of, greatest_of}
use Rattle.stock.specs.declared.TurnStockSpec.{TurnStockSpec}
use Rattle.stock.specs.Cell.{cell_at}
use Rattle.queries.specs.declared.Band.{Band}
use Rattle.queries.specs.Material.{band, most_of}
use Rattle.blocks.specs.declared.ends.Ends.{Ends}

-- some bins, as they are put together
pub data Lot : Type 0 where
  one : Band → Lot
  two : Lot → Lot → Lot

-- the numbers f of a lot, put together by an operation
unfoldable pub gathered : (Float → Float → Float) → (Band → Float) → Lot → Float
gathered op f (one b) = f b
gathered op f (two l r) = op (gathered op f l) (gathered op f r)

abbrev pub one_ends : Band → Ends
one_ends b = record { most = b; least = b; sums = b }

abbrev pub join_bands : (Float → Float → Float) → Band → Band → Band
join_bands op a b = band (op a.bore b.bore) (op a.outer b.outer)

abbrev pub join_ends : Ends → Ends → Ends
join_ends a b = record { most = join_bands greatest_of a.most b.most; least = join_bands least_of a.least b.least; sums = join_bands ◌+₆₄◌ a.sums b.sums }

abbrev pub gathered_band : (Float → Float → Float) → Lot → Band
gathered_band op t = band (gathered op (λ (b : Band). b.bore) t) (gathered op (λ (b : Band). b.outer) t)

-- the ends of a lot
unfoldable pub ends_in : Lot → Ends
ends_in t = record { most = gathered_band greatest_of t; least = gathered_band least_of t; sums = gathered_band ◌+₆₄◌ t }

-- the band of bin i
abbrev pub bin_at : List Float → ℕ → Lot
bin_at cs i = one (most_of (cell_at cs i))

abbrev pub two_at : List Float → ℕ → Lot
two_at cs i = two (bin_at cs i) (bin_at cs (i + 1))

abbrev pub four_at : List Float → ℕ → Lot
four_at cs i = two (two_at cs i) (two_at cs (i + 2))

-- k fours more behind the first
unfoldable pub lot_to : List Float → ℕ → ℕ → Lot
lot_to cs a zero = four_at cs a
lot_to cs a (suc k) = two (four_at cs (a + 4 * suc k)) (lot_to cs a k)

-- the greatest bore lies below the least outer radius, and no number is a NaN
abbrev pub all_held : TurnStockSpec → Ends → Bool
all_held s e = lt s.bore_radius_mm s.outer_radius_mm && lt e.most.bore e.least.outer && eq e.sums.bore e.sums.bore && eq e.sums.outer e.sums.outer
