-- What is drawn of a bin. Of two stocks of one bar it is what both have; of one stock, both cells are the same. Assumes nothing.
use Rattle.std.specs.Prelude.{Bool, not, ◌&&◌, ℕ, List, Float}
use Rattle.std.specs.Float.Ieee.{lt}
use Rattle.floats.specs.Numbers.{least_of, greatest_of}
use Rattle.stock.specs.declared.TurnCell.{TurnCell}
use Rattle.stock.specs.declared.TurnStockSpec.{TurnStockSpec}
use Rattle.stock.specs.declared.ZRange.{ZRange}
use Rattle.stock.specs.Bin.{bin_of}
use Rattle.stock.specs.Cell.{cell_at, same_cell}
use Rattle.queries.specs.declared.Band.{Band}
use Rattle.queries.specs.Material.{band, sure_of, most_of}
use Rattle.picture.specs.declared.Look.{Look}
use Rattle.picture.specs.declared.Look.TheVariants.{Metal, May, Gone, Unlike}

-- what two bands have in common
abbrev pub common_of : Band → Band → Band
common_of a b = band (greatest_of a.bore b.bore) (least_of a.outer b.outer)

-- solid is what certainly remains; everything else goes by what may remain
unfoldable pub band_of : Look → TurnCell → TurnCell → Band
band_of Metal a b = common_of (sure_of a) (sure_of b)
band_of May a b = common_of (most_of a) (most_of b)
band_of Gone a b = common_of (most_of a) (most_of b)
band_of Unlike a b = common_of (most_of a) (most_of b)

-- metal from the bore to the outer radius
abbrev pub metal_in : Band → Bool
metal_in b = lt b.bore b.outer

-- a bin that is turned about, or has no length, shows no metal
abbrev pub metal_at : ZRange → Band → Bool
metal_at z b = lt z.za z.zb && metal_in b

-- a bin looks so
unfoldable pub looks_so : Look → ZRange → TurnCell → TurnCell → Bool
looks_so Metal z a b = metal_at z (band_of Metal a b)
looks_so May z a b = metal_at z (band_of May a b)
looks_so Gone z a b = not (metal_in (band_of Gone a b))
looks_so Unlike z a b = not (same_cell a b)

-- bin j of two stocks looks so
abbrev pub looks_at : Look → TurnStockSpec → List Float → List Float → ℕ → Bool
looks_at look s cs ds j = looks_so look (bin_of s j) (cell_at cs j) (cell_at ds j)
