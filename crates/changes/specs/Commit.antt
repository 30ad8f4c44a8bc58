-- A commit: when changes pass, and what they leave. Assumes nothing.
use Rattle.std.specs.Prelude.{◌≡◌, Bool, ◌&&◌, ℕ, suc, ◌+◌, ◌/◌, min, leb, ltb, length, Float, Option, None, Some, Result}
use mathlib.Core.List.{List, [], ◌∷◌, foldl}
use Rattle.std.specs.Float.Ieee.{le}
use Rattle.refusals.specs.declared.Refused.{Refused}
use Rattle.refusals.specs.Number.{placed_of}
use Rattle.refusals.specs.Paper.{Paper, answers, refuses, demand, demand_none, placed, onward}
use Rattle.refusals.specs.Limits.{last_generation}
use Rattle.refusals.specs.Lent.{Lent}
use Rattle.floats.specs.Pick.{pick}
use Rattle.stock.specs.declared.TurnStockSpec.{TurnStockSpec}
use Rattle.stock.specs.declared.TurnCell.{TurnCell}
use Rattle.stock.specs.declared.TurnChange.{TurnChange}
use Rattle.stock.specs.declared.Stamp.{Stamp}
use Rattle.stock.specs.declared.TurnStock.{TurnStock}
use Rattle.stock.specs.Spec.{clean_spec}
use Rattle.stock.specs.Cell.{cell_at, cell_fits, same_cell, stock_of, put_cell}
use Rattle.stock.specs.Stock.{same_stamp, stock_with}
use Rattle.blocks.specs.Block.{blocks_of, matches_of}
use Rattle.changes.specs.Change.{room_of, changes_from}
use Rattle.changes.specs.declared.ChangeList.{ChangeList}

-- ---- which changes pass

-- outer bounds only fall, inner bounds only rise
abbrev pub only_removes : TurnCell → TurnCell → Bool
only_removes before after =
    le after.outer.upper_mm before.outer.upper_mm && le after.outer.lower_mm before.outer.lower_mm
    && le before.inner.lower_mm after.inner.lower_mm && le before.inner.upper_mm after.inner.upper_mm

-- 21 unless there is such a bin among n, 22 unless it holds the before-cell, 23 if the change adds material
unfoldable pub applies_to : ℕ → List Float → TurnChange → Paper (Unit {0})
applies_to n cs c =
    demand (ltb c.index n) 21
    (demand (same_cell (cell_at cs c.index) c.before) 22
    (demand (only_removes c.before c.after) 23
    (answers tt)))

-- 8 unless the after-cell fits, then 21, 22, 23
unfoldable pub passes : TurnStockSpec → ℕ → List Float → TurnChange → Paper (Unit {0})
passes s n cs c = demand (cell_fits s c.after) 8 (applies_to n cs c)

-- change by change, the first of them at the place k
unfoldable pub each_from : TurnStockSpec → ℕ → List Float → ℕ → List TurnChange → Paper (Unit {0})
each_from s n cs k [] = answers tt
each_from s n cs k (c ∷ l) = onward (placed k (passes s n cs c)) (λ _. each_from s n cs (suc k) l)

-- the place of the first index that is not above the one before it: behind the index i, the first of them at the place k
unfoldable pub fall_after : ℕ → ℕ → List TurnChange → Option ℕ
fall_after k i [] = None
fall_after k i (c ∷ l) = pick (ltb i c.index) (fall_after (suc k) c.index l) (Some k)

-- the later of the first pair that does not rise
unfoldable pub first_fall : List TurnChange → Option ℕ
first_fall [] = None
first_fall (c ∷ l) = fall_after 1 c.index l

-- 7 over the whole list first, then change by change
unfoldable pub pass_all : TurnStockSpec → ℕ → List Float → List TurnChange → Paper (Unit {0})
pass_all s n cs l = demand_none (first_fall l) 7 (each_from s n cs 0 l)

-- the same of the first k changes of the lent lists, as many as they hold
abbrev pub first_refusal : TurnStockSpec → ℕ → List Float → List ℕ → List Float → ℕ → Paper (Unit {0})
first_refusal s n cs is xs k = pass_all s n cs (changes_from is xs (min k (room_of (length is) (length xs))))

-- ---- what a commit leaves

-- the cells with every after-cell in its bin
abbrev pub put_all : List Float → List TurnChange → List Float
put_all cs l = foldl (λ (x : List Float) (c : TurnChange). put_cell x c.index c.after) cs l

-- the same with the first k changes of the lent lists, as many as they hold
abbrev pub put_held : List Float → List ℕ → List Float → ℕ → List Float
put_held cs is xs k = put_all cs (changes_from is xs (min k (room_of (length is) (length xs))))

pub record Committed : Type 0 where
  pub cells : List Float
  pub generation : ℕ

-- 7, then 8, 21, 22, 23 change by change, then 12; the generation rises by 1, also with no changes
unfoldable pub commit_in : TurnStockSpec → ℕ → List Float → ℕ → List TurnChange → Paper Committed
commit_in s n cs gen l =
    onward (pass_all s n cs l) (λ _.
    demand (ltb gen last_generation) 12
    (answers (record { cells = put_all cs l; generation = gen + 1 })))

-- the same of the first k changes of the lent lists, as many as they hold
abbrev pub commit_held : TurnStockSpec → ℕ → List Float → ℕ → List ℕ → List Float → ℕ → Paper Committed
commit_held s n cs gen is xs k = commit_in s n cs gen (changes_from is xs (min k (room_of (length is) (length xs))))

-- the number of cells of a stock that is asked for a commit: 1, 2, 3, 19 unless the list's stamp is the stock's, 20 unless the kept numbers match the cells
unfoldable pub asked_stock : TurnStock → List Float → List Float → Stamp → Paper ℕ
asked_stock k cs bs st =
    onward (stock_of k.spec cs) (λ n.
    demand (same_stamp st k.stamp) 19
    (demand (matches_of (clean_spec k.spec) n cs bs) 20
    (answers n)))

-- a commit of a list of changes with its stamp: 1, 2, 3, 19, 20, then 7, 8, 21, 22, 23 change by change, 12
unfoldable pub commit_of : TurnStock → List Float → List Float → Stamp → List TurnChange → Paper Committed
commit_of k cs bs st l = onward (asked_stock k cs bs st) (λ n. commit_in (clean_spec k.spec) n cs k.stamp.generation l)

-- a commit of a change list from the lent lists: the same, with 6 directly after 20 where they hold fewer
unfoldable pub apply_of : TurnStock → List Float → List Float → ChangeList → List ℕ → List Float → Paper Committed
apply_of k cs bs list is xs =
    onward (asked_stock k cs bs list.stamp) (λ n.
    demand (leb list.count (room_of (length is) (length xs))) 6
    (commit_in (clean_spec k.spec) n cs k.stamp.generation (changes_from is xs list.count)))

abbrev pub generation_of : Paper Committed → Paper ℕ
generation_of (answers k) = answers k.generation
generation_of (refuses n) = refuses n

-- the stock at that generation; its edition and its rings stay
abbrev pub stock_at : TurnStock → Paper ℕ → Paper TurnStock
stock_at k (answers g) = answers (stock_with k k.rings g)
stock_at k (refuses n) = refuses n

-- a refusal leaves the cells
abbrev pub cells_after : Paper Committed → List Float → List Float
cells_after (answers k) cs = k.cells
cells_after (refuses n) cs = cs

-- the answer and the lent cells after a commit to the stock k
pub record Applies (k : TurnStock) (p : Paper Committed) (r : Result TurnStock Refused) (cs cs' : List Float) : Type 0 where
  pub answer : placed_of r ≡ stock_at k (generation_of p)
  pub cells : cs' ≡ cells_after p cs

-- the kept numbers of a stock with these cells: two for each block, worked out of them
abbrev pub numbers_kept : TurnStockSpec → List Float → List Float
numbers_kept spec cs = blocks_of (clean_spec spec) (length cs / 4) cs

-- those after a commit are the ones of the cells then; a refusal leaves them
abbrev pub kept_after : TurnStock → Paper Committed → List Float → List Float
kept_after k (answers c) bs = numbers_kept k.spec c.cells
kept_after k (refuses n) bs = bs

-- the answer, the lent cells and the kept numbers after a commit to the stock k
pub record AppliesKept (k : TurnStock) (p : Paper Committed) (r : Result TurnStock Refused) (cs cs' bs bs' : List Float) : Type 0 where
  pub left : Applies k p r cs cs'
  pub kept : bs' ≡ kept_after k p bs

-- of lent cells, and of lent cells and kept numbers, at both moments
abbrev pub Commits : TurnStock → Paper Committed → (Result TurnStock Refused) → Lent Float → Type 0
Commits k p r cells = Applies k p r cells.entry.now cells.exit.now

abbrev pub CommitsKept : TurnStock → Paper Committed → (Result TurnStock Refused) → Lent Float → Lent Float → Type 0
CommitsKept k p r cells blocks = AppliesKept k p r cells.entry.now cells.exit.now blocks.entry.now blocks.exit.now

-- ---- the commit of a stock's own list, of which no kept numbers are asked: what a job makes
unfoldable pub own_commit : TurnStockSpec → List Float → ℕ → List TurnChange → Paper Committed
own_commit spec cs gen l = onward (stock_of spec cs) (λ n. commit_in (clean_spec spec) n cs gen l)
