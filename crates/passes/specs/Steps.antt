-- Proved to come to `check_of` (proofs/Verdicts, proofs/Decoded); need not be believed.
-- What the functions of a check hand on to one another. Assumes nothing.
use Rattle.std.specs.Prelude.{◌≡◌, List, ℕ, zero, suc, ◌*◌, ◌≤◌, ◌<◌, min, length, Float, Option, None, Some, Result}
use Rattle.std.specs.Float.{nan}
use Rattle.refusals.specs.Number.{placed_of}
use Rattle.refusals.specs.declared.Refused.{Refused}
use Rattle.refusals.specs.Paper.{Paper, answers}
use Rattle.refusals.specs.Limits.{cell_limit}
use Rattle.stock.specs.declared.TurnStock.{TurnStock}
use Rattle.changes.specs.Change.{room_of}
use Rattle.changes.specs.Commit.{Committed, generation_of, stock_at, numbers_kept}
use Rattle.passes.specs.Check.{first_miss, Verdict, Said, says_yes, says_bin, said_in, said_by, cells_by}
use Rattle.passes.specs.declared.Verdict as verdict

-- six numbers by their place
abbrev pub six_of : Float → Float → Float → Float → Float → Float → ℕ → Float
six_of a b c d e f zero = a
six_of a b c d e f (suc zero) = b
six_of a b c d e f (suc (suc zero)) = c
six_of a b c d e f (suc (suc (suc zero))) = d
six_of a b c d e f (suc (suc (suc (suc zero)))) = e
six_of a b c d e f (suc (suc (suc (suc (suc zero))))) = f
six_of a b c d e f (suc (suc (suc (suc (suc (suc j)))))) = nan

-- lent lists have room for a change in every cell, as far as a stock has cells
abbrev pub RoomForAll : List Float → List ℕ → List Float → Type 0
RoomForAll cs is xs = min (length cs) (4 * cell_limit) ≤ 4 * room_of (length is) (length xs)

-- cuts made in turn: the answer, and where none is refused the cells
pub record Turns (k : TurnStock) (p : Paper Committed) (r : Result TurnStock Refused) (cs' : List Float) : Type 0 where
  pub answer : placed_of r ≡ stock_at k (generation_of p)
  pub cells : (c : Committed) → p ≡ answers c → cs' ≡ c.cells

-- the first of n bins that does not meet its target, or n and more
pub record MissedFirst (ts cs : List Float) (n r : ℕ) : Type 0 where
  pub missed : r < n → first_miss ts cs n ≡ Some r
  pub met : n ≤ r → first_miss ts cs n ≡ None

-- what is said of a stock whose cuts are made, by the first bin that does not meet its target, and the cells then
abbrev pub said_at : TurnStock → Option ℕ → Said
said_at s None = says_yes s
said_at s (Some i) = says_bin i

abbrev pub cells_at : Option ℕ → List Float → List Float → List Float
cells_at None cs es = es
cells_at (Some i) cs es = cs

pub record Judged (s : TurnStock) (o : Option ℕ) (r : verdict.Verdict) (cs es es' : List Float) : Type 0 where
  pub answer : said_in r ≡ said_at s o
  pub cells : es' ≡ cells_at o cs es

-- a verdict, and the cells then
pub record Decided (k : TurnStock) (cs : List Float) (v : Verdict) (r : verdict.Verdict) (es' : List Float) : Type 0 where
  pub answer : said_in r ≡ said_by k v
  pub cells : es' ≡ cells_by v cs

-- with their kept numbers
pub record DecidedKept (k : TurnStock) (cs : List Float) (v : Verdict) (r : verdict.Verdict) (es' bs' : List Float) : Type 0 where
  pub decided : Decided k cs v r es'
  pub kept : bs' ≡ numbers_kept k.spec (cells_by v cs)
