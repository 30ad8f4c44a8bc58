-- A move: a commit of changes with the rings that the move removed; and a stock rebuilt from its parts. Assumes nothing.
use Rattle.std.specs.Prelude.{◌≡◌, Bool, true, false, List, ℕ, ◌+◌, ◌/◌, leb, length, Float, Err, Ok, Result}
use Rattle.refusals.specs.declared.Refused.{Refused}
use Rattle.refusals.specs.Number.{placed_of}
use Rattle.refusals.specs.Paper.{Paper, answers, refuses, demand, demand_none, onward}
use Rattle.refusals.specs.Limits.{last_generation}
use Rattle.refusals.specs.Lent.{Lent}
use Rattle.stock.specs.declared.TurnStockSpec.{TurnStockSpec}
use Rattle.stock.specs.declared.TurnStock.{TurnStock}
use Rattle.stock.specs.declared.TurnChange.{TurnChange}
use Rattle.stock.specs.declared.Stamp.{Stamp}
use Rattle.stock.specs.Spec.{clean_spec}
use Rattle.stock.specs.Cell.{stock_of}
use Rattle.stock.specs.Stock.{same_stamp, stock_from}
use Rattle.blocks.specs.Block.{matches_of}
use Rattle.blocks.specs.Renew.{renew_of}
use Rattle.changes.specs.declared.ChangeList.{ChangeList}
use Rattle.changes.specs.Change.{room_of, changes_from}
use Rattle.rings.specs.declared.Ring.{Ring}
use Rattle.rings.specs.Store.{bar_ring, rings_of, store_as, count_fits, bad_ring, raised_by}
use Rattle.rings.specs.declared.RingCount.{RingCount}
use Rattle.rings.specs.Remove.{count_of, store_after, stock_after, remove_rings}
use Rattle.rings.specs.Tests.{list_tests}
use Rattle.changes.specs.Commit.{pass_all, put_all, numbers_kept}

-- ---- a move

-- the stock that a move leaves
pub record Left : Type 0 where
  pub cells : List Float
  pub rings : List Ring
  pub generation : ℕ

-- its rings and its generation alone
pub record RingsLeft : Type 0 where
  pub rings : List Ring
  pub generation : ℕ

-- 1 for the commit, and 1 for each ring that is not empty after clipping
unfoldable pub generation_after : TurnStockSpec → ℕ → List Float → ℕ
generation_after spec g removed = g + 1 + raised_by (bar_ring (clean_spec spec)) (rings_of (length removed / 4) removed)

-- what is asked of a move on n checked cells before its changes, with the stamp of their list: 4, 19 unless the stamp is the stock's, 20 unless the kept numbers match the cells, 10
unfoldable pub movable_of : TurnStock → ℕ → List Float → List Float → List Float → Stamp → List Float → Paper (Unit {0})
movable_of k n cs bs xs st removed =
    demand (count_fits (bar_ring (clean_spec k.spec)) xs k.rings) 4
    (demand (same_stamp st k.stamp) 19
    (demand (matches_of (clean_spec k.spec) n cs bs) 20
    (demand_none (bad_ring removed) 10
    (answers tt))))

-- the rings that a move leaves, and its generation: 12, 11
unfoldable pub rings_moved : TurnStock → List Float → List Float → Paper RingsLeft
rings_moved k xs removed =
    demand (leb (generation_after k.spec k.stamp.generation removed) last_generation) 12
    (onward (remove_rings k.spec xs k.rings removed) (λ rs.
    answers (record { rings = rs; generation = generation_after k.spec k.stamp.generation removed })))

-- the same of a move whose changes say p: 4, 19, 20, 10, then what they say, 12, 11
unfoldable pub taken_of : TurnStock → ℕ → List Float → List Float → List Float → Stamp → Paper (Unit {0}) → List Float → Paper RingsLeft
taken_of k n cs bs xs st p removed =
    onward (movable_of k n cs bs xs st removed) (λ _.
    onward p (λ _.
    rings_moved k xs removed))

-- a move on n checked cells of a list with its stamp: 4, 19, 20, 10, 7, then 8, 21, 22, 23 change by change, then 12, 11
unfoldable pub move_in : TurnStock → ℕ → List Float → List Float → List Float → Stamp → List TurnChange → List Float → Paper Left
move_in k n cs bs xs st l removed =
    onward (taken_of k n cs bs xs st (pass_all (clean_spec k.spec) n cs l) removed) (λ t.
    answers (record { cells = put_all cs l; rings = t.rings; generation = t.generation }))

-- a move of a change list from the lent lists: 1, 2, 3, 6 where they hold fewer, then as above
unfoldable pub move_of : TurnStock → List Float → List Float → List Float → ChangeList → List ℕ → List Float → List Float → Paper Left
move_of k cs bs xs list is ys removed =
    onward (stock_of k.spec cs) (λ n.
    demand (leb list.count (room_of (length is) (length ys))) 6
    (move_in k n cs bs xs list.stamp (changes_from is ys list.count) removed))

-- ---- what a move answers, and what the lent numbers hold afterwards

-- the count of rings and the generation
abbrev pub counts_of : Paper Left → Paper RingCount
counts_of (answers a) = answers (record { rings = length a.rings; generation = a.generation })
counts_of (refuses n) = refuses n

-- a refusal leaves the cells
abbrev pub moved_cells : Paper Left → List Float → List Float
moved_cells (answers a) cs = a.cells
moved_cells (refuses n) cs = cs

-- the rings at the front and the rest as it was; a refusal leaves them
abbrev pub moved_rings : Paper Left → List Float → List Float
moved_rings (answers a) xs = store_as xs a.rings
moved_rings (refuses n) xs = xs

-- the kept numbers are those of the cells then; a refusal leaves them
abbrev pub moved_kept : TurnStock → Paper Left → List Float → List Float
moved_kept k (answers a) bs = numbers_kept k.spec a.cells
moved_kept k (refuses n) bs = bs

-- the stock, the lent cells and the lent rings after a move of the stock k
pub record Moves (k : TurnStock) (p : Paper Left) (r : Result TurnStock Refused) (cs cs' xs xs' : List Float) : Type 0 where
  pub answer : placed_of r ≡ stock_after k (counts_of p)
  pub cells : cs' ≡ moved_cells p cs
  pub rings : xs' ≡ moved_rings p xs

-- the same, with the kept numbers
pub record MovesKept (k : TurnStock) (p : Paper Left) (r : Result TurnStock Refused) (cs cs' bs bs' xs xs' : List Float) : Type 0 where
  pub left : Moves k p r cs cs' xs xs'
  pub kept : bs' ≡ moved_kept k p bs

-- the new numbers where a rule answers; a refusal leaves the old
abbrev pub told_tests : {A : Type 0} → Paper A → List ℕ → List ℕ → List ℕ
told_tests (answers a) new old = new
told_tests (refuses n) new old = old

-- the same, with the tests of each ring of the list `removed` at the front of a lent list
pub record MovesTold (k : TurnStock) (p : Paper Left) (removed : List Float) (r : Result TurnStock Refused) (cs cs' bs bs' xs xs' : List Float) (ts ts' : List ℕ) : Type 0 where
  pub moves : MovesKept k p r cs cs' bs bs' xs xs'
  pub tests : ts' ≡ told_tests p (list_tests k.spec xs k.rings removed ts) ts

-- of lent cells, kept numbers, rings and tests, at both moments
abbrev pub MovesLent : TurnStock → Paper Left → List Float → Result TurnStock Refused → Lent Float → Lent Float → Lent Float → Lent ℕ → Type 0
MovesLent k p removed r cells blocks rings tests =
    MovesTold k p removed r cells.entry.now cells.exit.now blocks.entry.now blocks.exit.now rings.entry.now rings.exit.now tests.entry.now tests.exit.now

-- ---- the rings of a move alone

-- how many they are, and the generation
abbrev pub counts_left : Paper RingsLeft → Paper RingCount
counts_left (answers a) = answers (record { rings = length a.rings; generation = a.generation })
counts_left (refuses n) = refuses n

-- the rings at the front and the rest as it was; a refusal leaves them
abbrev pub rings_left_after : Paper RingsLeft → List Float → List Float
rings_left_after (answers a) xs = store_as xs a.rings
rings_left_after (refuses n) xs = xs

-- the answer and the lent rings after they are taken
pub record TakesRings (p : Paper RingsLeft) (r : Result RingCount Refused) (xs xs' : List Float) : Type 0 where
  pub answer : placed_of r ≡ counts_left p
  pub rings : xs' ≡ rings_left_after p xs

-- an answer that is no refusal
abbrev pub is_moved : Result RingCount Refused → Bool
is_moved (Ok c) = true
is_moved (Err r) = false

-- ---- a stock from its parts

-- its rings: those given, one after the other, into an empty store; 10, 11
unfoldable pub given_of : TurnStockSpec → List Float → List Float → Paper (List Ring)
given_of spec given xs = demand_none (bad_ring given) 10 (remove_rings spec xs 0 given)

-- the same of cells that are asked: 1, 2, 3, 20 where the lent numbers, so many, are not two for each block, 10, 11
unfoldable pub parts_of : TurnStockSpec → List Float → ℕ → List Float → List Float → Paper (List Ring)
parts_of spec cs len given xs = onward (renew_of spec cs len) (λ _. given_of spec given xs)

-- the stock of an edition with that many rings, at generation 0
abbrev pub stock_stored : TurnStockSpec → ℕ → Paper ℕ → Paper TurnStock
stock_stored spec edition (answers n) = answers (stock_from spec edition n 0)
stock_stored spec edition (refuses r) = refuses r

-- the kept numbers are those of the cells, whatever they were; a refusal leaves them
abbrev pub rebuilt_kept : TurnStockSpec → List Float → Paper (List Ring) → List Float → List Float
rebuilt_kept spec cs (answers l) bs = numbers_kept spec cs
rebuilt_kept spec cs (refuses n) bs = bs

-- the stock, the kept numbers and the lent rings
pub record Rebuilds (spec : TurnStockSpec) (edition : ℕ) (cs : List Float) (p : Paper (List Ring)) (r : Result TurnStock Refused) (bs bs' xs ys : List Float) : Type 0 where
  pub answer : placed_of r ≡ stock_stored spec edition (count_of p)
  pub kept : bs' ≡ rebuilt_kept spec cs p bs
  pub store : ys ≡ store_after xs p

-- the same, with the tests of each ring given at the front of a lent list
pub record RebuildsTold (spec : TurnStockSpec) (edition : ℕ) (cs : List Float) (p : Paper (List Ring)) (given : List Float) (r : Result TurnStock Refused) (bs bs' xs ys : List Float) (ts ts' : List ℕ) : Type 0 where
  pub rebuilds : Rebuilds spec edition cs p r bs bs' xs ys
  pub tests : ts' ≡ told_tests p (list_tests spec xs 0 given ts) ts

-- of lent numbers, rings and tests, at both moments
abbrev pub RebuildsLent : TurnStockSpec → ℕ → List Float → Paper (List Ring) → List Float → Result TurnStock Refused → Lent Float → Lent Float → Lent ℕ → Type 0
RebuildsLent spec edition cs p given r blocks rings tests =
    RebuildsTold spec edition cs p given r blocks.entry.now blocks.exit.now rings.entry.now rings.exit.now tests.entry.now tests.exit.now
