-- The cuts by name: what each does to cells, its preview, where that is accepted, and a list of them in turn. Assumes nothing.
use Rattle.std.specs.Prelude.{◌≡◌, Bool, true, List, [], map, ℕ, ◌+◌, ◌≤◌, length, T, Float}
use Rattle.std.specs.Float.{binary64}
use Rattle.std.specs.Float.Ieee.{fits}
use Rattle.refusals.specs.Paper.{Paper, answers}
use Rattle.refusals.specs.Limits.{last_generation}
use Rattle.floats.specs.Each.{Each}
use Rattle.stock.specs.declared.TurnStockSpec.{TurnStockSpec}
use Rattle.stock.specs.declared.TurnChange.{TurnChange}
use Rattle.stock.specs.declared.TurnSide.{TurnSide}
use Rattle.stock.specs.Spec.{clean_spec}
use Rattle.stock.specs.Cell.{stock_of}
use Rattle.stock.proofs.Bins.{HeldSpec, HeldList}
use Rattle.reach.specs.Reach.{Act}
use Rattle.reach.specs.Kinds.{OnSide, OnlyAt}
use Rattle.cuts.specs.declared.Cut.{Cut}
use Rattle.cuts.specs.declared.Tool.{Tool}
use Rattle.cuts.specs.declared.Tool.TheVariants.{Single, Nose, Polygon}
use Rattle.cuts.specs.Tool.{tool_act, tool_good, preview_tool}
use Rattle.cuts.proofs.Singles.{HeldCut}
use Rattle.changes.specs.Commit.{Committed}
use Rattle.demands.specs.Job.{Step, turned_all}

-- a tool with the numbers beside it: the segments of a nose, the points of a polygon
pub record Cutter : Type 0 where
  pub tool : Tool
  pub beside : List Float

-- a single cut, a nose along segments, a polygon by its points
abbrev pub single : Cut → Cutter
single u = record { tool = Single u; beside = [] }

abbrev pub nose : TurnSide → Float → List Float → Cutter
nose side rn xs = record { tool = Nose side rn; beside = xs }

abbrev pub polygon : TurnSide → Float → List Float → Cutter
polygon side excess ps = record { tool = Polygon side excess; beside = ps }

-- what it does to the cells of a stock
abbrev pub cutter_act : TurnStockSpec → Cutter → Act
cutter_act spec t = tool_act (clean_spec spec) t.tool t.beside

-- its preview: the rule of the call
abbrev pub cutter_preview : TurnStockSpec → Cutter → List Float → ℕ → Paper (List TurnChange)
cutter_preview spec t cs room = preview_tool spec cs t.tool t.beside room

-- it is no arc (13), and in its domain (5)
abbrev pub cutter_good : Cutter → Bool
cutter_good t = tool_good t.tool t.beside

-- its numbers are values of f64, as those that are handed over are
abbrev pub HeldTool : Tool → List Float → Type 0
HeldTool (Single u) ys = HeldCut u
HeldTool (Nose side rn) ys = T (fits binary64 rn) × HeldList ys
HeldTool (Polygon side excess) ys = T (fits binary64 excess) × HeldList ys

abbrev pub HeldCutter : Cutter → Type 0
HeldCutter t = HeldTool t.tool t.beside

-- as a cut of a job
abbrev pub step_of : TurnStockSpec → Cutter → Step
step_of spec t = record { act = cutter_act spec t; preview = cutter_preview spec t }

-- cuts by name, each previewed and committed in turn; the first refusal ends it and is the answer
abbrev pub turned_tools : TurnStockSpec → ℕ → Committed → List Cutter → Paper Committed
turned_tools spec room k l = turned_all spec room k (map (step_of spec) l)

-- they are all of this side
abbrev pub ToolsOf : TurnStockSpec → TurnSide → List Cutter → Type 0
ToolsOf spec σ l = Each (λ (t : Cutter). OnSide σ (cutter_act spec t)) l

-- each is of this side, or passes bin i over
abbrev pub ToolsAt : TurnStockSpec → TurnSide → ℕ → List Cutter → Type 0
ToolsAt spec σ i l = Each (λ (t : Cutter). OnlyAt σ i (cutter_act spec t)) l

-- A stock of n cells that is not refused, cuts that are no arcs and in their domain, room for a change in every cell, generations to spare. All numbers are values of f64.
pub record ToolsJob (spec : TurnStockSpec) (room n : ℕ) (k : Committed) (l : List Cutter) : Type 0 where
  pub spec_held : HeldSpec spec
  pub cells_held : HeldList k.cells
  pub tools_held : Each HeldCutter l
  pub stock : stock_of spec k.cells ≡ answers n
  pub good : Each (λ (t : Cutter). cutter_good t ≡ true) l
  pub space : n ≤ room
  pub spare : k.generation + length l ≤ last_generation
