-- Proved equal to `cut_act`, `nose_act` and `polygon_act` by the proofs of the previews; need not be believed.
-- Where the loop over the bins takes from what a cut reaches: from the numbers of a thread or a drill, or from rows that were filled before; and which bins it visits. Assumes nothing.
use Rattle.std.specs.Prelude.{◌≡◌, Bool, true, false, ◌&&◌, List, ℕ, ◌-◌, ◌≤◌, ◌<◌, leb, ltb, length, Float}
use Rattle.std.specs.Float.Ieee.{lt, le}
use Rattle.floats.specs.Pick.{pick}
use Rattle.floats.specs.Numbers.{zero64, usable}
use Rattle.stock.specs.declared.TurnStockSpec.{TurnStockSpec}
use Rattle.stock.specs.declared.TurnCell.{TurnCell}
use Rattle.stock.specs.declared.TurnChange.{TurnChange}
use Rattle.stock.specs.declared.TurnSide.{TurnSide}
use Rattle.stock.specs.declared.TurnSide.TheVariants.{Inner}
use Rattle.stock.specs.declared.ZRange.{ZRange}
use Rattle.stock.specs.Bin.{bin_of}
use Rattle.stock.specs.Cell.{cell_at, same_cell}
use Rattle.reach.specs.declared.Reach.{Reach}
use Rattle.reach.specs.declared.Reach.TheVariants.{Passed, Low, Both}
use Rattle.reach.specs.Reach.{reach_from, cut_cell, Act, act_cell}
use Rattle.changes.specs.Change.{room_of}
use Rattle.cuts.specs.declared.list.Source.{Source}
use Rattle.cuts.specs.declared.list.Source.TheVariants as source
use Rattle.cuts.specs.Cut.{drill_at, thread_reach, drill_reach}
use Rattle.cuts.specs.Rows.{row_at, Graded}

unfoldable pub source_side : Source → TurnSide
source_side (source.Thread side r) = side
source_side (source.Drill tip r cone) = Inner
source_side (source.Rows side) = side

-- so far above its tip that its point is behind; there drill_at is the radius (proofs/Drills)
abbrev pub is_past : Float → Float → Float → Bool
is_past a r cone = usable a && usable r && usable cone && lt zero64 r && lt zero64 cone && le cone a

-- what a drill reaches in a bin that does not end before its tip
abbrev pub drill_both : ZRange → Float → Float → Float → Reach
drill_both b tip r cone = Both (drill_at b.zb tip r cone) (drill_at b.za tip r cone)

unfoldable pub source_reach : TurnStockSpec → Source → List Float → List Bool → ℕ → Reach
source_reach s (source.Thread side r) values there i = Low r
source_reach s (source.Drill tip r cone) values there i = drill_both (bin_of s i) tip r cone
source_reach s (source.Rows side) values there i = reach_from side (row_at values there i).low (row_at values there i).high

-- the cut
abbrev pub source_act : TurnStockSpec → Source → List Float → List Bool → Act
source_act s src values there = record { side = source_side src; at = source_reach s src values there }

-- a cut that reaches the same low in every bin
abbrev pub low_act : TurnSide → Float → Act
low_act side r = record { side = side; at = λ i. Low r }

-- a drill in bins that do not end before its tip
abbrev pub bore_act : TurnStockSpec → Float → Float → Float → Act
bore_act s tip r cone = record { side = Inner; at = λ i. drill_both (bin_of s i) tip r cone }

-- a test says whether a cell stays the same
pub record Leaves (r : Bool) (c after : TurnCell) : Type 0 where
  pub stays : r ≡ true → after ≡ c
  pub moves : r ≡ false → same_cell c after ≡ false

-- the cut leaves this cell, whatever bin it is of
abbrev pub LeavesCell : Source → TurnCell → Type 0
LeavesCell src c = (s : TurnStockSpec) (values : List Float) (there : List Bool) (i : ℕ) → cut_cell (source_side src) c (source_reach s src values there i) ≡ c

-- in the bins from first to before last what a reach says, the others passed over
unfoldable pub span_reach : ℕ → ℕ → (ℕ → Reach) → ℕ → Reach
span_reach first last reach i = pick (leb first i) (pick (ltb i last) (reach i) Passed) Passed

-- a cut in those bins only
abbrev pub span_act : ℕ → ℕ → Act → Act
span_act first last a = record { side = a.side; at = span_reach first last a.at }

-- what it makes of the cell of each bin
abbrev pub span_cell : ℕ → ℕ → TurnStockSpec → Source → List Float → List Bool → ℕ → TurnCell → TurnCell
span_cell first last s src values there = act_cell (span_act first last (source_act s src values there))

-- a thread, and a drill
abbrev pub thread_act : TurnStockSpec → TurnSide → Float → Float → Float → Act
thread_act s side z0 z1 r = record { side = side; at = λ i. thread_reach (bin_of s i) z0 z1 r }

abbrev pub drill_act : TurnStockSpec → Float → Float → Float → Act
drill_act s tip r cone = record { side = Inner; at = λ i. drill_reach (bin_of s i) tip r cone }

-- the change of bin i, from its cell and from what is reached there
abbrev pub cut_change : TurnSide → TurnCell → Reach → ℕ → TurnChange
cut_change side before reached i = record { index = i; before = before; after = cut_cell side before reached }

-- the change that a thread makes of the cell of bin i
abbrev pub thread_change : TurnSide → Float → TurnCell → ℕ → TurnChange
thread_change side r before i = record { index = i; before = before; after = cut_cell side before (Low r) }

-- the change that a drill makes of it, by its radius at the lower and the upper end
abbrev pub drill_change : Float → Float → TurnCell → ℕ → TurnChange
drill_change x y before i = record { index = i; before = before; after = cut_cell Inner before (Both x y) }

-- the cell of bin i is the same as itself: none of its numbers is a NaN
abbrev pub SameTo : List Float → ℕ → Type 0
SameTo cs i = same_cell (cell_at cs i) (cell_at cs i) ≡ true

-- so of each bin below n
abbrev pub SameBelow : List Float → ℕ → Type 0
SameBelow cs n = (i : ℕ) → i < n → SameTo cs i

-- a stock whose n cells are checked is ready for the loops
abbrev pub ReadyFor : TurnStockSpec → ℕ → List Float → Type 0
ReadyFor s n cs = Graded s n × SameBelow cs n

-- there is room for a change of each bin from first to before last
abbrev pub RoomOver : ℕ → ℕ → List ℕ → List Float → Type 0
RoomOver first last is xs = last - first ≤ room_of (length is) (length xs)
