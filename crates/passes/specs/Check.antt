-- The check of proposed cuts against targets, two radii a bin: yes exactly when every cut is accepted in turn and every bin meets its target. Assumes nothing.
use Rattle.std.specs.Prelude.{◌≡◌, Bool, true, not, ◌&&◌, List, ℕ, zero, suc, ◌+◌, ◌*◌, eqb, leb, length, get_or, Float, Option, None, Some, Result, Ok, Err}
use Rattle.std.specs.Float.Ieee.{le}
use Rattle.refusals.specs.declared.Refusal.{Refusal}
use Rattle.refusals.specs.Number.{reason_of}
use Rattle.refusals.specs.Paper.{Paper, answers, refuses, demand, onward, first_of, place_or}
use Rattle.refusals.specs.Lent.{Lent}
use Rattle.floats.specs.Pick.{pick}
use Rattle.floats.specs.Numbers.{clean_of, usable}
use Rattle.stock.specs.declared.TurnStockSpec.{TurnStockSpec}
use Rattle.stock.specs.declared.TurnStock.{TurnStock}
use Rattle.stock.specs.Spec.{clean_spec}
use Rattle.stock.specs.Cell.{number_at, cell_at, stock_of}
use Rattle.stock.specs.Stock.{stock_with}
use Rattle.blocks.specs.Block.{blocks_in, matches_of}
use Rattle.changes.specs.Commit.{Committed, numbers_kept}
use Rattle.passes.specs.Cuts.{Cuts, pass_limit, is_inside, standing, turned_to}
use Rattle.passes.specs.declared.Verdict as verdict
use Rattle.passes.specs.declared.Verdict.TheVariants as says

-- ---- targets: the lower and the upper radius of each bin, -0.0 read as +0.0
abbrev pub lower_at : List Float → ℕ → Float
lower_at ts i = clean_of (number_at ts (2 * i))

abbrev pub upper_at : List Float → ℕ → Float
upper_at ts i = clean_of (number_at ts (2 * i + 1))

-- both are 01's numbers, and the lower is not above the upper
abbrev pub target_good : List Float → ℕ → Bool
target_good ts i = usable (lower_at ts i) && usable (upper_at ts i) && le (lower_at ts i) (upper_at ts i)

-- those of the first k bins are
unfoldable pub targets_to : List Float → ℕ → Bool
targets_to ts zero = true
targets_to ts (suc i) = targets_to ts i && target_good ts i

-- there are two for each of n bins, all good
abbrev pub targets_good : List Float → ℕ → Bool
targets_good ts n = eqb (length ts) (2 * n) && targets_to ts n

-- a bin's outer lower is at least its target's lower, and its outer upper at most its target's upper
abbrev pub meets : List Float → List Float → ℕ → Bool
meets ts cs i = le (lower_at ts i) (cell_at cs i).outer.lower_mm && le (cell_at cs i).outer.upper_mm (upper_at ts i)

-- the first of k bins that does not meet its target
unfoldable pub first_miss : List Float → List Float → ℕ → Option ℕ
first_miss ts cs zero = None
first_miss ts cs (suc i) = first_of (first_miss ts cs i) (pick (meets ts cs i) None (Some i))

-- ---- cuts

-- none of the first k is an inside cut
unfoldable pub outside_to : List ℕ → ℕ → Bool
outside_to kinds zero = true
outside_to kinds (suc k) = outside_to kinds k && not (is_inside (get_or kinds k 0))

-- no more than there may be, none inside
abbrev pub cuts_good : List ℕ → Bool
cuts_good kinds = leb (length kinds) pass_limit && outside_to kinds (length kinds)

-- ---- the verdict
pub data Verdict : Type 0 where
  -- yes: the cells and the generation afterwards
  accepted : Committed → Verdict
  -- no: the first cut that is refused, and with which number
  cut_at : ℕ → ℕ → Verdict
  -- no: the first bin that does not meet its target
  bin_at : ℕ → Verdict

abbrev pub by_bins : Committed → Option ℕ → Verdict
by_bins c None = accepted c
by_bins c (Some i) = bin_at i

abbrev pub by_cuts : List Float → ℕ → Paper Committed → Verdict
by_cuts ts n (answers c) = by_bins c (first_miss ts c.cells n)
by_cuts ts n (refuses r) = cut_at (place_or 0 r.place) r.number

-- of a stock of n cells
abbrev pub verdict_of : TurnStock → List Float → ℕ → List Float → Cuts → Verdict
verdict_of k cs n ts ls = by_cuts ts n (turned_to k.spec ls (standing k cs) (length ls.kinds))

-- what is asked first: the number of cells; 1, 2, 3 of the cells and of the room for those afterwards, 20 of the kept numbers and of the count of those afterwards, 25
unfoldable pub checkable_of : TurnStockSpec → List Float → List Float → List Float → List ℕ → ℕ → ℕ → Paper ℕ
checkable_of spec cs bs ts kinds room numbers =
    onward (stock_of spec cs) (λ n.
    demand (eqb room (4 * n)) 3
    (demand (matches_of (clean_spec spec) n cs bs) 20
    (demand (eqb numbers (2 * blocks_in n)) 20
    (demand (cuts_good kinds && targets_good ts n) 25
    (answers n)))))

-- the check: 1, 2, 3, 20, 25, then a verdict
unfoldable pub check_of : TurnStock → List Float → List Float → List Float → Cuts → ℕ → ℕ → Paper Verdict
check_of k cs bs ts ls room numbers = onward (checkable_of k.spec cs bs ts ls.kinds room numbers) (λ n. answers (verdict_of k cs n ts ls))

-- ---- what the answer says, case by case, and what is left
pub data Said : Type 0 where
  says_yes : TurnStock → Said
  says_cut : ℕ → ℕ → Said
  says_bin : ℕ → Said

abbrev pub said_in : verdict.Verdict → Said
said_in (says.Yes k) = says_yes k
said_in (says.CutFails k r) = says_cut k (reason_of r).number
said_in (says.BinFails i) = says_bin i

abbrev pub checked_paper : Result verdict.Verdict Refusal → Paper Said
checked_paper (Ok v) = answers (said_in v)
checked_paper (Err r) = refuses (reason_of r)

-- on yes the stock at its new generation
abbrev pub said_by : TurnStock → Verdict → Said
said_by k (accepted c) = says_yes (stock_with k k.rings c.generation)
said_by k (cut_at i q) = says_cut i q
said_by k (bin_at i) = says_bin i

abbrev pub said_of : TurnStock → Paper Verdict → Paper Said
said_of k (answers v) = answers (said_by k v)
said_of k (refuses r) = refuses r

-- the cells afterwards: the new ones on yes, the old ones on no; a refusal leaves what was lent
abbrev pub cells_by : Verdict → List Float → List Float
cells_by (accepted c) cs = c.cells
cells_by (cut_at i q) cs = cs
cells_by (bin_at i) cs = cs

abbrev pub cells_left : Paper Verdict → List Float → List Float → List Float
cells_left (answers v) cs es = cells_by v cs
cells_left (refuses r) cs es = es

-- and their kept numbers
abbrev pub kept_left : TurnStockSpec → Paper Verdict → List Float → List Float → List Float
kept_left spec (answers v) cs bs = numbers_kept spec (cells_by v cs)
kept_left spec (refuses r) cs bs = bs

-- the answer and the two buffers after a check
pub record Checks (k : TurnStock) (cs : List Float) (p : Paper Verdict) (r : Result verdict.Verdict Refusal) (es es' bs bs' : List Float) : Type 0 where
  pub answer : checked_paper r ≡ said_of k p
  pub cells : es' ≡ cells_left p cs es
  pub kept : bs' ≡ kept_left k.spec p cs bs

-- of lent numbers, at both moments
abbrev pub ChecksLent : TurnStock → List Float → Paper Verdict → Result verdict.Verdict Refusal → Lent Float → Lent Float → Type 0
ChecksLent k cs p r after blocks = Checks k cs p r after.entry.now after.exit.now blocks.entry.now blocks.exit.now
