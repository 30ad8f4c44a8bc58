-- A job: cuts, each previewed and committed in turn by the rules, refusals included. Assumes nothing.
use Rattle.std.specs.Prelude.{◌≡◌, Bool, ℕ, ◌+◌, ◌*◌, ◌≤◌, ◌<◌, length, Float}
use mathlib.Core.List.{List, map, foldl}
use Rattle.refusals.specs.Paper.{Paper, answers, onward}
use Rattle.refusals.specs.Limits.{last_generation}
use Rattle.floats.specs.Each.{Each}
use Rattle.stock.specs.declared.TurnStockSpec.{TurnStockSpec}
use Rattle.stock.specs.declared.TurnChange.{TurnChange}
use Rattle.stock.specs.declared.TurnSide.{TurnSide}
use Rattle.stock.specs.Cell.{cell_at, stock_of}
use Rattle.stock.proofs.Bins.{HeldSpec, HeldList}
use Rattle.reach.specs.Reach.{Act}
use Rattle.reach.specs.Kinds.{PlainAct, OnlyAt}
use Rattle.reach.specs.Closed.{closed, owns_at}
use Rattle.cuts.specs.Preview.{proposed, preview_of}
use Rattle.changes.specs.Commit.{Committed, own_commit}

-- ---- cuts in turn

-- A cut of a job: what it does to cells, and its preview, which answers from the cells and the room for changes.
pub record Step : Type 0 where
  pub act : Act
  pub preview : List Float → ℕ → Paper (List TurnChange)

-- the cut previewed, with room for so many changes, and what that proposes committed, as a list of the stock itself, so that 19 does not arise (`turned-asks`, proofs/InTurn); a refusal of either is the answer
unfoldable pub turned : TurnStockSpec → ℕ → Step → Committed → Paper Committed
turned spec room u k = onward (u.preview k.cells room) (λ l. own_commit spec k.cells k.generation l)

-- cuts in turn, from the cells and the generation k; the first refusal ends it and is the answer
unfoldable pub turned_all : TurnStockSpec → ℕ → Committed → List Step → Paper Committed
turned_all spec room k l = foldl (λ (p : Paper Committed) (u : Step). onward p (turned spec room u)) (answers k) l

-- an act, previewed as a cut that is in its domain or not
abbrev pub act_step : TurnStockSpec → Bool → Act → Step
act_step spec good a = record { act = a; preview = λ cs room. preview_of spec cs good a room }

-- what the cuts do, one after the other
abbrev pub acts_of : List Step → List Act
acts_of l = map (λ (u : Step). u.act) l

-- ---- which jobs the demand is about

-- On a stock of n cells that is not refused the preview proposes the changes of the act, where there is room for them (it is no arc, and in its domain);
-- and none of the numbers that the act reaches is a NaN or -0.0.
pub record Sound (spec : TurnStockSpec) (n : ℕ) (u : Step) : Type 0 where
  pub rule : (cs : List Float) (room : ℕ) → stock_of spec cs ≡ answers n → u.preview cs room ≡ proposed u.act cs room n
  pub plain : PlainAct n u.act

-- A stock of n cells that is not refused, cuts that are sound, room for a change in every cell, generations to spare. The numbers handed over are values of f64.
pub record Job (spec : TurnStockSpec) (room n : ℕ) (k : Committed) (l : List Step) : Type 0 where
  pub spec_held : HeldSpec spec
  pub cells_held : HeldList k.cells
  pub stock : stock_of spec k.cells ≡ answers n
  pub sound : Each (Sound spec n) l
  pub space : n ≤ room
  pub spare : k.generation + length l ≤ last_generation

-- ---- what is demanded of them

-- No cut is refused, the generation rises by one for each, and in each bin that one side only reaches the cell is the closed form of the cell at the start:
-- each bound the deepest of its start and the cuts' own bounds, those after floor or ceiling of the start; the pair then ordered.
pub record Leaves (spec : TurnStockSpec) (room n : ℕ) (k : Committed) (l : List Step) : Type 0 where
  pub cells : List Float
  pub answer : turned_all spec room k l ≡ answers (record { cells = cells; generation = k.generation + length l })
  pub long : length cells ≡ 4 * n
  pub stock : stock_of spec cells ≡ answers n
  pub bins : (σ : TurnSide) (i : ℕ) → i < n → Each (OnlyAt σ i) (acts_of l) → cell_at cells i ≡ closed σ (cell_at k.cells i) (owns_at σ (cell_at k.cells i) i (acts_of l))
