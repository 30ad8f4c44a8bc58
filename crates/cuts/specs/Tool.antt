-- The tools: what each does to cells, where it is in its domain, and its preview. The numbers beside a tool are its segments or its points. Assumes nothing.
use Rattle.std.specs.Prelude.{ℕ, Bool, not, ◌&&◌, List, Float}
use Rattle.refusals.specs.Paper.{Paper, demand}
use Rattle.stock.specs.declared.TurnStockSpec.{TurnStockSpec}
use Rattle.stock.specs.declared.TurnChange.{TurnChange}
use Rattle.stock.specs.declared.TurnSide.{TurnSide}
use Rattle.reach.specs.Reach.{Act}
use Rattle.nose.specs.Nose.{segments_good, nose_act}
use Rattle.polygon.specs.Polygon.{polygon_good, polygon_act}
use Rattle.cuts.specs.declared.Cut.{Cut}
use Rattle.cuts.specs.declared.Tool.{Tool}
use Rattle.cuts.specs.declared.Tool.TheVariants as tool
use Rattle.cuts.specs.declared.each_cut.Sweep.{Sweep}
use Rattle.cuts.specs.declared.each_cut.Sweep.TheVariants as sweep
use Rattle.cuts.specs.Cut.{clean_cut, cut_good, is_arc, cut_act}
use Rattle.cuts.specs.Preview.{proposed, preview_cut, preview_nose, preview_polygon}

-- what it does to the cells of a stock whose spec is clean
unfoldable pub tool_act : TurnStockSpec → Tool → List Float → Act
tool_act s (tool.Single cut) ys = cut_act s (clean_cut cut)
tool_act s (tool.Nose side rn) ys = nose_act s side rn ys
tool_act s (tool.Polygon side excess) ys = polygon_act s side excess ys

-- it is in its domain (5)
unfoldable pub tool_inside : Tool → List Float → Bool
tool_inside (tool.Single cut) ys = cut_good (clean_cut cut)
tool_inside (tool.Nose side rn) ys = segments_good rn ys
tool_inside (tool.Polygon side excess) ys = polygon_good ys excess

-- it is no arc (13), and in its domain
unfoldable pub tool_good : Tool → List Float → Bool
tool_good (tool.Single cut) ys = not (is_arc (clean_cut cut)) && cut_good (clean_cut cut)
tool_good (tool.Nose side rn) ys = segments_good rn ys
tool_good (tool.Polygon side excess) ys = polygon_good ys excess

-- its preview
unfoldable pub preview_tool : TurnStockSpec → List Float → Tool → List Float → ℕ → Paper (List TurnChange)
preview_tool spec cs (tool.Single cut) ys room = preview_cut spec cs cut room
preview_tool spec cs (tool.Nose side rn) ys room = preview_nose spec cs side rn ys room
preview_tool spec cs (tool.Polygon side excess) ys room = preview_polygon spec cs side excess ys room

-- ---- on n checked cells of a clean spec

-- a single cut that is in its domain: 13, then 6
abbrev pub cut_in : TurnStockSpec → Cut → List Float → ℕ → ℕ → Paper (List TurnChange)
cut_in s u cs n room = demand (not (is_arc u)) 13 (proposed (cut_act s u) cs room n)

-- a tool
unfoldable pub tool_in : TurnStockSpec → Tool → List Float → List Float → ℕ → ℕ → Paper (List TurnChange)
tool_in s (tool.Single cut) ys cs n room = cut_in s (clean_cut cut) cs n room
tool_in s (tool.Nose side rn) ys cs n room = proposed (nose_act s side rn ys) cs room n
tool_in s (tool.Polygon side excess) ys cs n room = proposed (polygon_act s side excess ys) cs room n

-- a sweep
unfoldable pub sweep_side : Sweep → TurnSide
sweep_side (sweep.Nose side rn) = side
sweep_side (sweep.Polygon side excess) = side

unfoldable pub sweep_act : TurnStockSpec → Sweep → List Float → Act
sweep_act s (sweep.Nose side rn) ys = nose_act s side rn ys
sweep_act s (sweep.Polygon side excess) ys = polygon_act s side excess ys
