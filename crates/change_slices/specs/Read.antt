-- The changes of the two flat lists, as records. Assumes nothing.
use Rattle.std.specs.Prelude.{◌≡◌, List, ℕ, min, length, Float}
use Rattle.refusals.specs.Lent.{Lent, over}
use Rattle.stock.specs.declared.TurnChange.{TurnChange}
use Rattle.changes.specs.Change.{room_of, changes_from}

-- of k changes, as many as flat lists of these lengths hold and as there are records
abbrev pub held_in : ℕ → ℕ → ℕ → ℕ → ℕ
held_in indices numbers k len = min k (min (room_of indices numbers) len)

-- how many were written, and the records after it: those changes over the front, the rest as it was
pub record Reads (is : List ℕ) (xs : List Float) (k r : ℕ) (l l' : List TurnChange) : Type 0 where
  pub count : r ≡ held_in (length is) (length xs) k (length l)
  pub records : l' ≡ over (changes_from is xs r) l

-- of lent records, at both moments
abbrev pub ReadsInto : List ℕ → List Float → ℕ → ℕ → Lent TurnChange → Type 0
ReadsInto is xs k r changes = Reads is xs k r changes.entry.now changes.exit.now
