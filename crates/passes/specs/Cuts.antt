-- Proposed cuts as they are lent, and cuts made in turn. Assumes nothing.
use Rattle.std.specs.Prelude.{Bool, ◌&&◌, ◌||◌, List, [], ℕ, zero, suc, ◌+◌, ◌*◌, ◌-◌, eqb, leb, ltb, length, get_or, take, drop, Float}
use Rattle.std.specs.Float.{nan}
use Rattle.refusals.specs.Paper.{Paper, answers, placed, onward}
use Rattle.refusals.specs.Limits.{cell_limit}
use Rattle.floats.specs.Pick.{pick}
use Rattle.stock.specs.declared.TurnStockSpec.{TurnStockSpec}
use Rattle.stock.specs.declared.TurnStock.{TurnStock}
use Rattle.stock.specs.declared.TurnSide.TheVariants.{Outer, Inner}
use Rattle.stock.specs.Cell.{number_at}
use Rattle.changes.specs.Commit.{Committed, own_commit}
use Rattle.cuts.specs.declared.Cut.TheVariants.{Line, Thread, ThreadInner, Drill, Arc}
use Rattle.cuts.specs.declared.Tool.{Tool}
use Rattle.cuts.specs.declared.Tool.TheVariants.{Single, Nose, Polygon}
use Rattle.cuts.specs.Tool.{preview_tool}

-- ---- a list of cuts

-- the most cuts
abbrev pub pass_limit : ℕ
pass_limit = 128

-- as they are lent: one kind a cut, six numbers, two of a part of the lists beside them
pub record Cuts : Type 0 where
  pub kinds : List ℕ
  pub numbers : List Float
  pub parts : List ℕ
  pub lists : List Float

abbrev pub cuts_of : List ℕ → List Float → List ℕ → List Float → Cuts
cuts_of kinds numbers parts lists = record { kinds = kinds; numbers = numbers; parts = parts; lists = lists }

-- number j of cut k; no number where they do not reach
abbrev pub number_of : Cuts → ℕ → ℕ → Float
number_of ls k j = number_at ls.numbers (6 * k + j)

-- part k of a list of parts, its first number and its count, lies in so many numbers
abbrev pub part_lies : List ℕ → ℕ → ℕ → Bool
part_lies ps len k = ltb (2 * k + 1) (length ps) && leb (get_or ps (2 * k) 0) len && leb (get_or ps (2 * k + 1) 0) (len - get_or ps (2 * k) 0)

-- the cut has a part that lies in the lists
abbrev pub has_part : Cuts → ℕ → Bool
has_part ls k = part_lies ls.parts (length ls.lists) k

-- its part: so many numbers from so far on
abbrev pub part_of : Cuts → ℕ → List Float
part_of ls k = take (get_or ls.parts (2 * k + 1) 0) (drop (get_or ls.parts (2 * k) 0) ls.lists)

-- a tool that every preview refuses with 5: a nose of no radius
abbrev pub no_tool : Tool
no_tool = Nose Outer nan

-- a kind whose tool is swept along a part of the lists: a nose or a polygon, outside or inside
abbrev pub is_swept : ℕ → Bool
is_swept kind = eqb kind 2 || eqb kind 3 || eqb kind 6 || eqb kind 7

-- by its kind: 0 line, 1 thread, 2 nose, 3 polygon, outside; 4 to 7 the same inside; 8 drill; 9 arc
unfoldable pub tool_of : ℕ → (ℕ → Float) → Tool
tool_of kind x =
    pick (eqb kind 0) (Single (Line Outer (x 0) (x 1) (x 2) (x 3) (x 4) (x 5)))
    (pick (eqb kind 1) (Single (Thread (x 0) (x 1) (x 2)))
    (pick (eqb kind 2) (Nose Outer (x 0))
    (pick (eqb kind 3) (Polygon Outer (x 0))
    (pick (eqb kind 4) (Single (Line Inner (x 0) (x 1) (x 2) (x 3) (x 4) (x 5)))
    (pick (eqb kind 5) (Single (ThreadInner (x 0) (x 1) (x 2)))
    (pick (eqb kind 6) (Nose Inner (x 0))
    (pick (eqb kind 7) (Polygon Inner (x 0))
    (pick (eqb kind 8) (Single (Drill (x 0) (x 1) (x 2)))
    (pick (eqb kind 9) (Single Arc)
    no_tool)))))))))

-- an inside cut
abbrev pub is_inside : ℕ → Bool
is_inside kind = leb 4 kind && leb kind 8

-- a tool with the numbers beside it
pub record Pass : Type 0 where
  pub tool : Tool
  pub beside : List Float

abbrev pub pass_of : Tool → List Float → Pass
pass_of t ys = record { tool = t; beside = ys }

-- cut k: of a tool that is swept, with its part; a part beyond the lists is no tool
unfoldable pub pass_at : Cuts → ℕ → Pass
pass_at ls k =
    let kind = get_or ls.kinds k 0 in
    pick (is_swept kind)
    (pick (has_part ls k) (record { tool = tool_of kind (number_of ls k); beside = part_of ls k }) (record { tool = no_tool; beside = [] }))
    (record { tool = tool_of kind (number_of ls k); beside = [] })

-- ---- cuts in turn

-- a stock with these cells, before the first of them
abbrev pub standing : TurnStock → List Float → Committed
standing k cs = record { cells = cs; generation = k.stamp.generation }

-- a cut previewed, with room for a change in every cell, and what that proposes committed, as the stock's own list; a refusal of either is the answer
unfoldable pub pass_turned : TurnStockSpec → Pass → Committed → Paper Committed
pass_turned spec t c = onward (preview_tool spec c.cells t.tool t.beside cell_limit) (λ l. own_commit spec c.cells c.generation l)

-- the first k cuts; the first refusal ends it, and has the place of its cut
unfoldable pub turned_to : TurnStockSpec → Cuts → Committed → ℕ → Paper Committed
turned_to spec ls c zero = answers c
turned_to spec ls c (suc k) = onward (turned_to spec ls c k) (λ d. placed k (pass_turned spec (pass_at ls k) d))
