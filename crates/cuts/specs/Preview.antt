-- A preview: the changes of a cut, which it proposes and does not make. Assumes nothing.
use Rattle.std.specs.Prelude.{ℕ, Bool, not, List, Float}
use Rattle.refusals.specs.Paper.{Paper, demand, onward}
use Rattle.stock.specs.declared.TurnStockSpec.{TurnStockSpec}
use Rattle.stock.specs.declared.TurnChange.{TurnChange}
use Rattle.stock.specs.declared.TurnSide.{TurnSide}
use Rattle.stock.specs.Spec.{clean_spec}
use Rattle.stock.specs.Cell.{stock_of}
use Rattle.reach.specs.Reach.{Act, act_cell}
use Rattle.changes.specs.Change.{changes_to, settled}
use Rattle.nose.specs.Nose.{segments_good, nose_act}
use Rattle.polygon.specs.Polygon.{polygon_good, polygon_act}
use Rattle.cuts.specs.declared.Cut.{Cut}
use Rattle.cuts.specs.Cut.{clean_cut, cut_good, is_arc, cut_act}

-- what a cut changes in n cells, if there is room for it
abbrev pub proposed : Act → List Float → ℕ → ℕ → Paper (List TurnChange)
proposed a cs room n = settled room (changes_to (act_cell a) cs n)

-- the same, as a rule of the room
abbrev pub proposing : Act → List Float → ℕ → ℕ → Paper (List TurnChange)
proposing a cs n room = proposed a cs room n

-- a cut that is in its domain or not: 1, 2, 3, 5, 6
unfoldable pub preview_of : TurnStockSpec → List Float → Bool → Act → ℕ → Paper (List TurnChange)
preview_of spec cs good a room = onward (stock_of spec cs) (λ n. demand good 5 (proposed a cs room n))

-- a nose along segments
abbrev pub preview_nose : TurnStockSpec → List Float → TurnSide → Float → List Float → ℕ → Paper (List TurnChange)
preview_nose spec cs side rn xs room = preview_of spec cs (segments_good rn xs) (nose_act (clean_spec spec) side rn xs) room

-- a polygon
abbrev pub preview_polygon : TurnStockSpec → List Float → TurnSide → Float → List Float → ℕ → Paper (List TurnChange)
preview_polygon spec cs side excess ps room = preview_of spec cs (polygon_good ps excess) (polygon_act (clean_spec spec) side excess ps) room

-- a single cut: 1, 2, 3, 13, 5, 6
unfoldable pub preview_cut : TurnStockSpec → List Float → Cut → ℕ → Paper (List TurnChange)
preview_cut spec cs cut room =
    let u = clean_cut cut in
    onward (stock_of spec cs) (λ n. demand (not (is_arc u)) 13 (demand (cut_good u) 5 (proposed (cut_act (clean_spec spec) u) cs room n)))
