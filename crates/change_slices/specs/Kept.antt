-- Proved to come to `CommitsKept` of `commit_of` and to `MovesLent` of `move_list_of` (proofs/Renewed, proofs/Taking); need not be believed.
-- The kept numbers of a list of changes, and what a commit and a move of it ask beside its records. Assumes nothing.
use Rattle.std.specs.Prelude.{◌≡◌, Bool, true, List, map, ℕ, ◌/◌, length, Float, Result}
use Rattle.refusals.specs.Number.{placed_of}
use Rattle.refusals.specs.declared.Refused.{Refused}
use Rattle.refusals.specs.Paper.{Paper, onward}
use Rattle.refusals.specs.Lent.{Lent}
use Rattle.floats.specs.Pick.{pick}
use Rattle.floats.specs.Numbers.{clean_of}
use Rattle.stock.specs.declared.TurnStockSpec.{TurnStockSpec}
use Rattle.stock.specs.declared.TurnStock.{TurnStock}
use Rattle.stock.specs.declared.TurnChange.{TurnChange}
use Rattle.stock.specs.declared.Stamp.{Stamp}
use Rattle.stock.specs.Spec.{clean_spec}
use Rattle.stock.specs.Cell.{stock_of}
use Rattle.blocks.specs.Block.{blocks_in}
use Rattle.blocks.specs.Renew.{renew_over}
use Rattle.rings.specs.declared.RingCount.{RingCount}
use Rattle.rings.specs.Tests.{list_tests}
use Rattle.changes.specs.Commit.{put_all, asked_stock, stock_at, numbers_kept}
use Rattle.changes.specs.Decide.{raised_of, is_accepted}
use Rattle.moves.specs.Move.{RingsLeft, taken_of, TakesRings, is_moved, told_tests}

-- what is left after a list of changes: each number cleared, and the blocks of their bins worked out of the cells
abbrev pub renewed_over : TurnStockSpec → ℕ → List Float → List Float → List TurnChange → List Float
renewed_over s n cs bs l = renew_over s n cs (map clean_of bs) (map (λ (c : TurnChange). c.index) l)

-- before the first of them
pub record Opens (n r : ℕ) (bs bs' : List Float) : Type 0 where
  pub block : r ≡ blocks_in n
  pub numbers : bs' ≡ map clean_of bs

abbrev pub OpensBlocks : ℕ → ℕ → Lent Float → Type 0
OpensBlocks n r blocks = Opens n r blocks.entry.now blocks.exit.now

-- the cells and the kept numbers after a list of changes that is accepted or not
pub record WrittenKept (t : Bool) (s : TurnStockSpec) (n : ℕ) (l : List TurnChange) (cs cs' bs bs' : List Float) : Type 0 where
  pub cells : cs' ≡ pick t (put_all cs l) cs
  pub kept : bs' ≡ pick t (renewed_over s n (put_all cs l) bs l) bs

-- ---- beside the records

-- kept numbers of which, after any changes, those of their blocks worked out make all
abbrev pub Renewable : TurnStock → List Float → List Float → Type 0
Renewable k cs bs = (l : List TurnChange) → renewed_over (clean_spec k.spec) (length cs / 4) (put_all cs l) bs l ≡ numbers_kept k.spec (put_all cs l)

-- the generation after a commit whose changes say p: 1, 2, 3, 19, 20, then what they say, 12
unfoldable pub raised_for : TurnStock → List Float → List Float → Stamp → Paper (Unit {0}) → Paper ℕ
raised_for k cs bs st p = onward (asked_stock k cs bs st) (λ _. raised_of p k.stamp.generation)

-- its answer; where it is accepted the kept numbers are such
pub record Answers (k : TurnStock) (cs bs : List Float) (st : Stamp) (p : Paper (Unit {0})) (r : Result TurnStock Refused) : Type 0 where
  pub answer : placed_of r ≡ stock_at k (raised_for k cs bs st p)
  pub keeps : is_accepted r ≡ true → Renewable k cs bs

-- the rings of a move whose changes say p: 1, 2, 3, 4, 19, 20, 10, then what they say, 12, 11
unfoldable pub taken_for : TurnStock → List Float → List Float → List Float → Stamp → Paper (Unit {0}) → List Float → Paper RingsLeft
taken_for k cs bs xs st p removed = onward (stock_of k.spec cs) (λ n. taken_of k n cs bs xs st p removed)

-- its answer and the lent rings; where they are taken the kept numbers are such
pub record Takes (k : TurnStock) (cs bs : List Float) (st : Stamp) (p : Paper (Unit {0})) (removed : List Float) (r : Result RingCount Refused) (xs xs' : List Float) : Type 0 where
  pub taken : TakesRings (taken_for k cs bs xs st p removed) r xs xs'
  pub keeps : is_moved r ≡ true → Renewable k cs bs

-- the same, with the tests of each ring at the front of a lent list
pub record TakesTold (k : TurnStock) (cs bs : List Float) (st : Stamp) (p : Paper (Unit {0})) (removed : List Float) (r : Result RingCount Refused) (xs xs' : List Float) (ts ts' : List ℕ) : Type 0 where
  pub takes : Takes k cs bs st p removed r xs xs'
  pub tests : ts' ≡ told_tests (taken_for k cs bs xs st p removed) (list_tests k.spec xs k.rings removed ts) ts
