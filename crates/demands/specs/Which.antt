-- Which change and which ring a refusal means: what stands before its place, and what stands at it (Req 04). Assumes nothing.
use Rattle.std.specs.Prelude.{◌≡◌, true, false, List, ◌∷◌, ◌++◌, ℕ, suc, ◌/◌, ◌%◌, ◌≤◌, ◌<◌, length, get_or, take, Float}
use Rattle.refusals.specs.Paper.{answers, refuses, only}
use Rattle.floats.specs.Each.{Each}
use Rattle.stock.specs.declared.TurnStockSpec.{TurnStockSpec}
use Rattle.stock.specs.declared.TurnChange.{TurnChange}
use Rattle.stock.specs.Cell.{cell_at, same_cell}
use Rattle.changes.specs.Change.{indices_of}
use Rattle.changes.specs.Commit.{only_removes, passes}
use Rattle.changes.specs.Decide.{rises}
use Rattle.rings.specs.Store.{ring_at, rings_of, good_ring, all_good}

-- 8, 21, 22 or 23 at k: every change before it passes, and it passes the tests before its number and fails that one
pub record FirstBad (s : TurnStockSpec) (n : ℕ) (cs : List Float) (l : List TurnChange) (m k : ℕ) : Type 0 where
  pub before : List TurnChange
  pub change : TurnChange
  pub after : List TurnChange
  pub order : l ≡ before ++ (change ∷ after)
  pub place : k ≡ length before
  pub pass : Each (λ (c : TurnChange). passes s n cs c ≡ answers tt) before
  pub fails : passes s n cs change ≡ refuses (only m)

-- 7 at k: the indices before it strictly rise, and its index is not above the one before
pub record FirstFall (l : List TurnChange) (k : ℕ) : Type 0 where
  pub there : k < length l
  pub earlier : ℕ
  pub later : k ≡ suc earlier
  pub rise : rises (take k l) ≡ true
  pub falls : get_or (indices_of l) k 0 ≤ get_or (indices_of l) earlier 0

-- 10 at k: every ring before it is good, and it is not, or is broken off
pub record FirstBadRing (xs : List Float) (k : ℕ) : Type 0 where
  pub there : k ≤ length xs / 4
  pub good : all_good (rings_of k xs) ≡ true
  pub bad : k < length xs / 4 → good_ring (ring_at xs k) ≡ false
  pub broken : k ≡ length xs / 4 → length xs % 4 ≡ 0 → ⊥

-- 22 at k, of a list that is stale: it is the first whose bin holds another cell
pub record StaleAt (ds : List Float) (l : List TurnChange) (k : ℕ) : Type 0 where
  pub before : List TurnChange
  pub change : TurnChange
  pub after : List TurnChange
  pub order : l ≡ before ++ (change ∷ after)
  pub place : k ≡ length before
  pub same : Each (λ (c : TurnChange). same_cell (cell_at ds c.index) c.before ≡ true) before
  pub differs : same_cell (cell_at ds change.index) change.before ≡ false

-- 23 at k, of a list whose bins hold its before-cells: it is the first that adds material
pub record AddsAt (l : List TurnChange) (k : ℕ) : Type 0 where
  pub before : List TurnChange
  pub change : TurnChange
  pub after : List TurnChange
  pub order : l ≡ before ++ (change ∷ after)
  pub place : k ≡ length before
  pub removes : Each (λ (c : TurnChange). only_removes c.before c.after ≡ true) before
  pub adds : only_removes change.before change.after ≡ false
