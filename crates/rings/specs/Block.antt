-- Proved equal to `count_fits` by the proof of `rings_fit` (proofs/Boxes); need not be believed.
-- Boxes about blocks of 16 stored rings, by which whole blocks are found apart from a ring at once. Assumes nothing.
use Rattle.std.specs.Prelude.{ℕ, ◌/◌, ◌%◌, ◌≤◌, ◌<◌, Bool, List, T, eqb, Float}
use Rattle.std.specs.Float.Ieee.{le}
use Rattle.floats.specs.Pick.{pick}
use Rattle.floats.specs.Numbers.{least_of, greatest_of}
use Rattle.rings.specs.declared.Ring.{Ring}
use Rattle.rings.specs.Ring.{ring}
use Rattle.rings.specs.Store.{ring_at, write}

-- the box about two rings
abbrev pub hull : Ring → Ring → Ring
hull b q = ring (least_of b.z0 q.z0) (greatest_of b.z1 q.z1) (least_of b.r0 q.r0) (greatest_of b.r1 q.r1)

-- the box about b and q, or about q alone where it is the first of its block
unfoldable pub box_with : Bool → Ring → Ring → Ring
box_with first b q = pick first q (hull b q)

-- the boxes, that of the ring i's block widened about it
unfoldable pub boxes_with : List Float → ℕ → Ring → List Float
boxes_with boxes i q = write boxes (i / 16) (box_with (eqb (i % 16) 0) (ring_at boxes (i / 16)) q)

-- the ring q lies in the box b
pub record InBox (b q : Ring) : Type 0 where
  pub z_low : T (le b.z0 q.z0)
  pub z_high : T (le q.z1 b.z1)
  pub r_low : T (le b.r0 q.r0)
  pub r_high : T (le q.r1 b.r1)

-- the rings from..to lie in the box b
pub record BoxAbout (b : Ring) (rings : List Float) (from to : ℕ) : Type 0 where
  pub about : (j : ℕ) → from ≤ j → j < to → InBox b (ring_at rings j)

-- each of the first n rings lies in the box of its block
pub record Boxed (boxes rings : List Float) (n : ℕ) : Type 0 where
  pub boxed : (j : ℕ) → j < n → InBox (ring_at boxes (j / 16)) (ring_at rings j)
