-- The changes of the flat lists, written one by one over a list of records. Assumes nothing.
use mathlib.Core.Path.{◌≡◌, sym, ◌∙◌, ap}
use mathlib.Core.List.{List, [], ◌∷◌}
use Prim.Native.Nat.{ℕ, ◌+◌, ◌<◌, ◌≤◌}
use native.Mathlib.Omega.{arith}
use borrow.Author.Tests.{lt-ltb}
use lib.ListN.{length, set}
use lib.Ieee.{Float}
use Rattle.refusals.specs.Lent.{over}
use Rattle.refusals.proofs.Written.{over_none, over-more}
use Rattle.floats.specs.Pick.{pick_true}
use Rattle.stock.specs.declared.TurnChange.{TurnChange}
use Rattle.changes.specs.Change.{room_of, change_from, change_held, changes_from}
use Rattle.changes.proofs.Falls.{from-length}
use Rattle.changes.proofs.Passed.{from_next}
use Rattle.change_slices.specs.Read.{held_in}

pub held-records : (a b k n : ℕ) → held_in a b k n ≤ n
held-records a b k n = omega arith

pub held-room : (a b k n : ℕ) → held_in a b k n ≤ room_of a b
held-room a b k n = omega arith

-- all that are asked for, where there is room for them
pub held_all : (a b k n : ℕ) → k ≤ room_of a b → k ≤ n → held_in a b k n ≡ k
held_all a b k n h g = omega arith

pub held-asked : (a b k n : ℕ) → held_in a b k n ≤ k
held-asked a b k n = omega arith

module _ (is : List ℕ) (xs : List Float) where
  -- a change that the flat lists hold
  pub change-held : (i : ℕ) → i < room_of (length is) (length xs) → change_held is xs i ≡ change_from is xs i
  change-held i h = pick_true _ _ _ (lt-ltb _ _ h)

  pub read_none : (ys : List TurnChange) → ys ≡ over (changes_from is xs 0) ys
  unfolding changes_from
  read_none ys = sym (over_none ys)

  pub read_next : (ys : List TurnChange) (i : ℕ) → i < length ys → set (over (changes_from is xs i) ys) i (change_from is xs i) ≡ over (changes_from is xs (i + 1)) ys
  read_next ys i h =
      ap (λ (k : ℕ). set (over (changes_from is xs i) ys) k (change_from is xs i)) (sym (from-length is xs i))
      ∙ over-more (changes_from is xs i) (change_from is xs i ∷ []) ys (let e = from-length is xs i in omega arith)
      ∙ ap (λ (l : List TurnChange). over l ys) (sym (from_next is xs i))
