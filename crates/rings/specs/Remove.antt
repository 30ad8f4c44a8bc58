-- The rules by which rings are taken: one ring, or a list of them one after the other. Assumes nothing.
use Rattle.std.specs.Prelude.{ℕ, ◌+◌, ◌/◌, min, ◌≡◌, Bool, ◌&&◌, List, [], ◌∷◌, ◌++◌, leb, ltb, length, Float, Err, Ok, Result}
use Rattle.refusals.specs.declared.Refused.{Refused}
use Rattle.refusals.specs.declared.Refusal.{Refusal}
use Rattle.refusals.specs.Limits.{piece_limit, last_generation}
use Rattle.refusals.specs.Number.{reason_in, paper_of, placed_of}
use Rattle.refusals.specs.Paper.{Paper, answers, refuses, demand, demand_at, onward}
use Rattle.floats.specs.Pick.{pick}
use Rattle.stock.specs.declared.TurnStockSpec.{TurnStockSpec}
use Rattle.stock.specs.declared.TurnStock.{TurnStock}
use Rattle.stock.specs.Spec.{clean_spec, cells_of}
use Rattle.stock.specs.Stock.{stock_with}
use Rattle.rings.specs.declared.Ring.{Ring}
use Rattle.rings.specs.declared.Removed.{Removed}
use Rattle.rings.specs.declared.RingCount.{RingCount}
use Rattle.rings.specs.Ring.{filled, kept, in_hand, clip, left}
use Rattle.rings.specs.Store.{bar_ring, rings_of, room_for_rings, store_as, count_fits, finite_ring}

-- ---- a clipped ring and the store

-- never over 256 pieces in hand, and room for what is left
unfoldable pub room_for : ℕ → List Ring → Ring → Bool
room_for room ks c = in_hand piece_limit (kept c) ks && leb (length ks + length (left ks c)) room

-- the store with what is left of the ring behind it; 11
unfoldable pub added : ℕ → List Ring → Ring → Paper (List Ring)
added room ks c = demand (room_for room ks c) 11 (answers (ks ++ left ks c))

-- the store with all of a list, one after the other; 11
unfoldable pub added_all : Ring → ℕ → List Ring → List Ring → Paper (List Ring)
added_all e room ks [] = answers ks
added_all e room ks (q ∷ qs) = onward (added room ks (clip e q)) (λ l. added_all e room l qs)

-- ---- what the calls answer, and what the lent numbers hold afterwards

-- how many rings
unfoldable pub count_of : Paper (List Ring) → Paper ℕ
count_of p = onward p (λ l. answers (length l))

-- the store's rings at the front and the rest as it was, or all as it was
abbrev pub store_after : List Float → Paper (List Ring) → List Float
store_after xs (answers l) = store_as xs l
store_after xs (refuses n) = xs

pub record StoresAs (xs : List Float) (p : Paper (List Ring)) (r : Result ℕ Refused) (ys : List Float) : Type 0 where
  pub answer : placed_of r ≡ count_of p
  pub store : ys ≡ store_after xs p

-- ---- a list of rings

-- all of the lent rings within the extent e; 4 where the count is over the room, 11
unfoldable pub remove_all_in : Ring → List Float → ℕ → List Float → Paper (List Ring)
remove_all_in e xs n removed = demand (leb n (room_for_rings (length xs))) 4 (added_all e (room_for_rings (length xs)) (rings_of n xs) (rings_of (length removed / 4) removed))

-- the same of a stock whose spec is checked already
unfoldable pub remove_rings : TurnStockSpec → List Float → ℕ → List Float → Paper (List Ring)
remove_rings spec xs n removed = remove_all_in (bar_ring (clean_spec spec)) xs n removed

-- ---- one ring

-- a store and its generation
pub record RingStore : Type 0 where
  pub rings : List Ring
  pub generation : ℕ

-- what an accepted ring that is not empty makes of the store and the generation; 12, 11
unfoldable pub stored_next : ℕ → List Ring → ℕ → Ring → Paper RingStore
stored_next room ks g c = demand (ltb g last_generation) 12 (onward (added room ks c) (λ l. answers (record { rings = l; generation = g + 1 })))

-- one ring within the extent e; 4, 10 at the place 0, and if it is not empty after clipping 12, 11
unfoldable pub remove_in : Ring → List Float → ℕ → ℕ → Ring → Paper RingStore
remove_in e xs n g q =
    demand (count_fits e xs n) 4
    (demand_at (finite_ring q) 10 0
    (pick (filled (clip e q)) (stored_next (room_for_rings (length xs)) (rings_of n xs) g (clip e q)) (answers (record { rings = rings_of n xs; generation = g }))))

-- one ring of a stock; 1, 2, then as within its extent
unfoldable pub remove_ring : TurnStockSpec → List Float → ℕ → ℕ → Ring → Paper RingStore
remove_ring spec xs n g q = onward (cells_of spec) (λ _. remove_in (bar_ring (clean_spec spec)) xs n g q)

-- the count of rings and the generation
unfoldable pub counts_of : Paper RingStore → Paper RingCount
counts_of p = onward p (λ s. answers (record { rings = length s.rings; generation = s.generation }))

unfoldable pub rings_left_after : List Float → Paper RingStore → List Float
rings_left_after xs p = store_after xs (onward p (λ s. answers s.rings))

-- the answer by counts
pub record Takes (xs : List Float) (p : Paper RingStore) (r : Result RingCount Refused) (ys : List Float) : Type 0 where
  pub answer : placed_of r ≡ counts_of p
  pub store : ys ≡ rings_left_after xs p

-- a stock with that count of rings at that generation
abbrev pub stock_after : TurnStock → Paper RingCount → Paper TurnStock
stock_after k (answers c) = answers (stock_with k c.rings c.generation)
stock_after k (refuses r) = refuses r

abbrev pub removed_paper : Result Removed Refused → Paper TurnStock
removed_paper (Ok m) = answers m.stock
removed_paper (Err r) = refuses (reason_in r)

-- the tests of a piece against a stored ring that an answer tells
abbrev pub removed_tests : Result Removed Refused → Paper ℕ
removed_tests (Ok m) = answers m.tests
removed_tests (Err r) = refuses (reason_in r)

-- the stock, the lent rings and the tests m after one ring of the stock k
pub record Removes (k : TurnStock) (xs : List Float) (p : Paper RingStore) (m : ℕ) (r : Result Removed Refused) (ys : List Float) : Type 0 where
  pub answer : removed_paper r ≡ stock_after k (counts_of p)
  pub store : ys ≡ rings_left_after xs p
  pub tests : removed_tests r ≡ onward p (λ _. answers m)

-- ---- a ring taken as it stands

-- the first n of the lent rings, or those that are lent where they are fewer
abbrev pub lent_rings : List Float → ℕ → List Ring
lent_rings xs n = rings_of (min n (length xs / 4)) xs

-- what the rings leave of the ring; 11 where over 256 pieces are in hand after one of them
unfoldable pub leaves : List Ring → Ring → Paper (List Ring)
leaves ks q = demand (in_hand piece_limit (kept q) ks) 11 (answers (left ks q))

abbrev pub left_of : List Float → ℕ → Ring → Paper (List Ring)
left_of xs n q = leaves (lent_rings xs n) q

-- the pieces at the front and the rest as it was, or all as it was
pub record LeavesOf (xs : List Float) (p : Paper (List Ring)) (r : Result ℕ Refusal) (ys : List Float) : Type 0 where
  pub answer : paper_of r ≡ count_of p
  pub store : ys ≡ store_after xs p
