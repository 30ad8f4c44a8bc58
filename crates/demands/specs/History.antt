-- What was called of a stock, one call after the other; and a list that is not of the stock as it stands. Assumes nothing.
use Rattle.std.specs.Prelude.{List, ℕ, leb, length, Float, Ok}
use Rattle.refusals.specs.Paper.{Paper, refuses, only, demand, onward}
use Rattle.stock.specs.declared.Stamp.{Stamp}
use Rattle.stock.specs.declared.TurnStock.{TurnStock}
use Rattle.stock.specs.declared.TurnChange.{TurnChange}
use Rattle.stock.specs.Spec.{clean_spec}
use Rattle.stock.specs.Cell.{stock_of}
use Rattle.changes.specs.declared.ChangeList.{ChangeList}
use Rattle.changes.specs.Change.{room_of}
use Rattle.changes.specs.Commit.{Committed, commit_of, apply_of, AppliesKept}
use Rattle.rings.specs.declared.Ring.{Ring}
use Rattle.rings.specs.Store.{bar_ring, count_fits}
use Rattle.rings.specs.Remove.{remove_ring, Removes}
use Rattle.rings.specs.Tests.{ring_tests}
use Rattle.moves.specs.Move.{Left, move_of, MovesKept}
use Rattle.change_slices.specs.Move.{move_list_of}

-- a stock, with its cells, its kept numbers and its rings in lent memory
pub record Owned : Type 0 where
  pub stock : TurnStock
  pub cells : List Float
  pub blocks : List Float
  pub rings : List Float

abbrev pub owned : TurnStock → List Float → List Float → List Float → Owned
owned k cs bs rs = record { stock = k; cells = cs; blocks = bs; rings = rs }

-- From one to another by calls that were accepted, whatever was handed to them: commits and moves, from lists or over records, and rings. Each answered the stock that the next was handed,
-- and left the lent numbers, by its promise. A rebuild is none of them.
pub data History : Owned → Owned → Type 0 where
  nothing-called : {k : Owned} → History k k
  committed : {s s' : TurnStock} {cs cs' bs bs' rs : List Float} {m : Owned} (list : ChangeList) (is : List ℕ) (xs : List Float) → AppliesKept s (apply_of s cs bs list is xs) (Ok s') cs cs' bs bs' → History (owned s' cs' bs' rs) m → History (owned s cs bs rs) m
  committed-records : {s s' : TurnStock} {cs cs' bs bs' rs : List Float} {m : Owned} (st : Stamp) (l : List TurnChange) → AppliesKept s (commit_of s cs bs st l) (Ok s') cs cs' bs bs' → History (owned s' cs' bs' rs) m → History (owned s cs bs rs) m
  moved : {s s' : TurnStock} {cs cs' bs bs' rs rs' : List Float} {m : Owned} (list : ChangeList) (is : List ℕ) (xs removed : List Float) → MovesKept s (move_of s cs bs rs list is xs removed) (Ok s') cs cs' bs bs' rs rs'
      → History (owned s' cs' bs' rs') m → History (owned s cs bs rs) m
  moved-records : {s s' : TurnStock} {cs cs' bs bs' rs rs' : List Float} {m : Owned} (st : Stamp) (l : List TurnChange) (removed : List Float) → MovesKept s (move_list_of s cs bs rs st l removed) (Ok s') cs cs' bs bs' rs rs'
      → History (owned s' cs' bs' rs') m → History (owned s cs bs rs) m
  ringed : {s s' : TurnStock} {cs bs rs rs' : List Float} {m : Owned} {t : ℕ} (q : Ring) → Removes s rs (remove_ring s.spec rs s.rings s.stamp.generation q) (ring_tests s.spec rs s.rings q) (Ok (record { stock = s'; tests = t })) rs' → History (owned s' cs bs rs') m → History (owned s cs bs rs) m

-- ---- what a list of another stamp is refused with

-- by a commit: what is asked of the stock first, or 19
abbrev pub commit_first : TurnStock → List Float → Paper Committed
commit_first k cs = onward (stock_of k.spec cs) (λ _. refuses (only 19))

-- by a move of a change list: the same, with 6 and 4 before 19
abbrev pub move_first : TurnStock → List Float → List Float → ChangeList → List ℕ → List Float → Paper Left
move_first k cs xs list is ys =
    onward (stock_of k.spec cs) (λ _.
    demand (leb list.count (room_of (length is) (length ys))) 6
    (demand (count_fits (bar_ring (clean_spec k.spec)) xs k.rings) 4
    (refuses (only 19))))

-- and of records, with 4 before 19
abbrev pub records_first : TurnStock → List Float → List Float → Paper Left
records_first k cs xs =
    onward (stock_of k.spec cs) (λ _.
    demand (count_fits (bar_ring (clean_spec k.spec)) xs k.rings) 4
    (refuses (only 19)))
