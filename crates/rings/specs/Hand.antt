-- Proved equal to `subtract_all`, `in_hand` and `tests_of` (proofs/InHand, proofs/Tested); need not be believed.
-- The pieces in hand, in a buffer with room for so many. Where there are more, one more than the room stands for their number. Assumes nothing.
use Rattle.std.specs.Prelude.{ℕ, ◌+◌, ◌/◌, ◌≤◌, min, ◌≡◌, true, List, ◌++◌, length, Float}
use Rattle.floats.specs.Pick.{pick}
use Rattle.rings.specs.declared.Ring.{Ring}
use Rattle.rings.specs.Ring.{subtract_all, in_hand}
use Rattle.rings.specs.Store.{rings_of}
use Rattle.rings.specs.Tests.{tests_of}
use Rattle.rings.specs.declared.hand.Cut.{Cut}

-- The first n rings of xs are l. Where l has more than the room, n is one more than that, and nothing is said of xs.
pub record Holds (room : ℕ) (xs : List Float) (n : ℕ) (l : List Ring) : Type 0 where
  pub size : length xs / 4 ≡ room
  pub count : n ≡ min (length l) (room + 1)
  pub same : n ≤ room → rings_of n xs ≡ l

-- whatever was held before, `more` is behind it after
pub record Grows (xs : List Float) (n : ℕ) (ys : List Float) (m : ℕ) (more : List Ring) : Type 0 where
  pub onto : (room : ℕ) (l : List Ring) → Holds room xs n l → Holds room ys m (l ++ more)

-- what the rings ks leave of the pieces ps is in hand, or one of them leaves more than the room
pub record Subtracted (room : ℕ) (ps ks : List Ring) (ys : List Float) (r : ℕ) : Type 0 where
  pub size : length ys / 4 ≡ room
  pub count : r ≡ pick (in_hand room ps ks) (length (subtract_all ps ks)) (room + 1)
  pub same : in_hand room ps ks ≡ true → rings_of r ys ≡ subtract_all ps ks

-- the same, and the tests that it took, 65,536 where they are more
pub record CutsAll (room : ℕ) (ps ks : List Ring) (ys : List Float) (r : Cut) : Type 0 where
  pub pieces : Subtracted room ps ks ys r.left
  pub tests : r.left ≤ room → r.tests ≡ min (tests_of ps ks) 65536
