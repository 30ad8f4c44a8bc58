-- The work that a ring takes: the tests of a piece against a stored ring that 01's steps make. Assumes nothing.
use Rattle.std.specs.Prelude.{ℕ, ◌+◌, ◌/◌, List, [], ◌∷◌, leb, length, take, Float}
use Rattle.refusals.specs.Paper.{Paper, answers, refuses}
use Rattle.refusals.specs.Lent.{over}
use Rattle.floats.specs.Pick.{pick}
use Rattle.stock.specs.declared.TurnStockSpec.{TurnStockSpec}
use Rattle.stock.specs.Spec.{clean_spec}
use Rattle.rings.specs.declared.Ring.{Ring}
use Rattle.rings.specs.Ring.{kept, subtract, clip}
use Rattle.rings.specs.Store.{bar_ring, rings_of, room_for_rings}
use Rattle.rings.specs.Remove.{added}

-- each stored ring is tested against the pieces in hand before it
unfoldable pub tests_of : List Ring → List Ring → ℕ
tests_of ps [] = 0
tests_of ps (k ∷ ks) = length ps + tests_of (subtract ps k) ks

-- of a ring within the extent e, where the rings ks are stored before it
unfoldable pub tests_for : Ring → List Ring → Ring → ℕ
tests_for e ks q = tests_of (kept (clip e q)) ks

-- of a ring of a stock, where the first n of the lent rings are stored before it
unfoldable pub ring_tests : TurnStockSpec → List Float → ℕ → Ring → ℕ
ring_tests spec xs n q = tests_for (bar_ring (clean_spec spec)) (rings_of n xs) q

-- ---- a list of rings

-- numbers that go on while rings are stored
abbrev pub while_stored : Paper (List Ring) → (List Ring → List ℕ) → List ℕ
while_stored (answers l) f = f l
while_stored (refuses n) f = []

-- the tests of each ring, where those before it are stored too; a ring that is refused ends the list
unfoldable pub tests_list : Ring → ℕ → List Ring → List Ring → List ℕ
tests_list e room ks [] = []
tests_list e room ks (q ∷ qs) = while_stored (added room ks (clip e q)) (λ l. tests_for e ks q ∷ tests_list e room l qs)

-- the numbers over the front of a lent list, as far as it reaches; the rest as it was
unfoldable pub tests_over : List ℕ → List ℕ → List ℕ
tests_over ts old = over (take (length old) ts) old

-- the lent list after the lent rings `removed` within the extent e, where the rings ks are stored before them
abbrev pub list_tests_in : Ring → ℕ → List Ring → List Float → List ℕ → List ℕ
list_tests_in e room ks removed old = tests_over (tests_list e room ks (rings_of (length removed / 4) removed)) old

-- the same of a stock, where the first n of the rings xs are stored before them; as it was where n is over the room
unfoldable pub list_tests : TurnStockSpec → List Float → ℕ → List Float → List ℕ → List ℕ
list_tests spec xs n removed old = pick (leb n (room_for_rings (length xs))) (list_tests_in (bar_ring (clean_spec spec)) (room_for_rings (length xs)) (rings_of n xs) removed old) old
