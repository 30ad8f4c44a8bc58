-- Changes of cells, by rising index, and their list in lent memory. Assumes nothing.
use Rattle.std.specs.Prelude.{◌≡◌, Bool, not, ◌&&◌, List, [], ◌∷◌, ◌++◌, map, ℕ, zero, suc, ◌+◌, ◌*◌, ◌/◌, ◌≤◌, min, leb, ltb, length, get_or, set, Float, Result}
use Rattle.std.proofs.lemmas.List.Edits.{sets}
use Rattle.refusals.specs.declared.Refusal.{Refusal}
use Rattle.refusals.specs.Number.{paper_of}
use Rattle.refusals.specs.Paper.{Paper, answers, refuses, demand}
use Rattle.refusals.specs.Lent.{Lent, over}
use Rattle.floats.specs.Pick.{pick}
use Rattle.stock.specs.declared.TurnCell.{TurnCell}
use Rattle.stock.specs.declared.TurnChange.{TurnChange}
use Rattle.stock.specs.declared.Stamp.{Stamp}
use Rattle.stock.specs.Cell.{cell_at, cell_of_none, four_of, same_cell}
use Rattle.changes.specs.declared.ChangeList.{ChangeList}

-- ---- what changes, where f says what the cell of each bin becomes

abbrev pub change_of : (ℕ → TurnCell → TurnCell) → List Float → ℕ → TurnChange
change_of f cs i = record { index = i; before = cell_at cs i; after = f i (cell_at cs i) }

-- the change of bin i, if its cell becomes another
unfoldable pub change_at : (ℕ → TurnCell → TurnCell) → List Float → ℕ → List TurnChange
change_at f cs i = pick (same_cell (cell_at cs i) (f i (cell_at cs i))) [] (change_of f cs i ∷ [])

-- the changes of the bins below n, by rising index
unfoldable pub changes_to : (ℕ → TurnCell → TurnCell) → List Float → ℕ → List TurnChange
changes_to f cs zero = []
changes_to f cs (suc i) = changes_to f cs i ++ change_at f cs i

-- ---- the list in lent memory

abbrev pub indices_of : List TurnChange → List ℕ
indices_of l = map (λ (c : TurnChange). c.index) l

-- the cell before, the cell after
abbrev pub row_of : TurnChange → List Float
row_of c = four_of c.before ++ four_of c.after

unfoldable pub numbers_of : List TurnChange → List Float
numbers_of [] = []
numbers_of (c ∷ l) = row_of c ++ numbers_of l

-- room for changes: the lesser of the indices and of the rows of eight numbers
abbrev pub room_of : ℕ → ℕ → ℕ
room_of indices numbers = min indices (numbers / 8)

-- change j of such a list
abbrev pub change_from : List ℕ → List Float → ℕ → TurnChange
change_from is xs j = record { index = get_or is j 0; before = cell_at xs (2 * j); after = cell_at xs (2 * j + 1) }

-- the same where the lists hold so many; else a change of no numbers
abbrev pub change_held : List ℕ → List Float → ℕ → TurnChange
change_held is xs j = pick (ltb j (room_of (length is) (length xs))) (change_from is xs j) (record { index = 0; before = cell_of_none; after = cell_of_none })

-- the first k changes of it
unfoldable pub changes_from : List ℕ → List Float → ℕ → List TurnChange
changes_from is xs zero = []
changes_from is xs (suc j) = changes_from is xs j ++ (change_from is xs j ∷ [])

-- the two lists with change k at its place, if there is room for it
pub record PutChange (k : ℕ) (c : TurnChange) (is is' : List ℕ) (xs xs' : List Float) : Type 0 where
  pub indices : is' ≡ pick (ltb k (room_of (length is) (length xs))) (set is k c.index) is
  pub numbers : xs' ≡ pick (ltb k (room_of (length is) (length xs))) (sets xs (8 * k) (row_of c)) xs

-- the change is one, and there is room for it behind k others
abbrev pub lists : ℕ → ℕ → TurnChange → Bool
lists room k c = not (same_cell c.before c.after) && ltb k room

-- the two lists with the change behind k others, and how many there are then
pub record ListedOne (k k' : ℕ) (c : TurnChange) (is is' : List ℕ) (xs xs' : List Float) : Type 0 where
  pub count : k' ≡ pick (lists (room_of (length is) (length xs)) k c) (k + 1) k
  pub indices : is' ≡ pick (lists (room_of (length is) (length xs)) k c) (set is k c.index) is
  pub numbers : xs' ≡ pick (lists (room_of (length is) (length xs)) k c) (sets xs (8 * k) (row_of c)) xs

-- the two lists with the changes of the bins below i over their fronts, and how many those are
pub record Listing (f : ℕ → TurnCell → TurnCell) (cs : List Float) (i k : ℕ) (is is' : List ℕ) (xs xs' : List Float) : Type 0 where
  pub count : k ≡ length (changes_to f cs i)
  pub indices : is' ≡ over (indices_of (changes_to f cs i)) is
  pub numbers : xs' ≡ over (numbers_of (changes_to f cs i)) xs

-- ---- how many changes a rule proposes

-- 6 unless there is room for the changes
abbrev pub settled : ℕ → List TurnChange → Paper (List TurnChange)
settled room l = demand (leb (length l) room) 6 (answers l)

-- how many there are
abbrev pub count_of : Paper (List TurnChange) → Paper ℕ
count_of (answers l) = answers (length l)
count_of (refuses n) = refuses n

-- a refusal writes nothing
abbrev pub written_of : Paper (List TurnChange) → List TurnChange
written_of (answers l) = l
written_of (refuses n) = []

-- The two lists after a proposal: its changes over the front, the rest as it was; and how many they are.
pub record Tallied (p : Paper (List TurnChange)) (r : Result ℕ Refusal) (is is' : List ℕ) (xs xs' : List Float) : Type 0 where
  pub answer : paper_of r ≡ count_of p
  pub indices : is' ≡ over (indices_of (written_of p)) is
  pub numbers : xs' ≡ over (numbers_of (written_of p)) xs

-- ---- the answer of a call that proposes changes: their list, with the stamp of the stock that it is of

-- a list of so many changes
abbrev pub stamped : Stamp → Paper ℕ → Paper ChangeList
stamped st (answers k) = answers (record { count = k; stamp = st })
stamped st (refuses n) = refuses n

-- the answer, of a stock with this stamp, and the two lists
pub record Proposed (st : Stamp) (p : Paper (List TurnChange)) (r : Result ChangeList Refusal) (is is' : List ℕ) (xs xs' : List Float) : Type 0 where
  pub answer : paper_of r ≡ stamped st (count_of p)
  pub indices : is' ≡ over (indices_of (written_of p)) is
  pub numbers : xs' ≡ over (numbers_of (written_of p)) xs

-- ---- of two lent lists, at both moments

-- how many changes they have room for
abbrev pub room_in : Lent ℕ → Lent Float → ℕ
room_in indices records = room_of (length indices.entry.now) (length records.entry.now)

-- change k at its place
abbrev pub PutsChange : ℕ → TurnChange → Lent ℕ → Lent Float → Type 0
PutsChange k c indices records = PutChange k c indices.entry.now indices.exit.now records.entry.now records.exit.now

-- the change behind k others, and how many there are then
abbrev pub ListsChange : ℕ → ℕ → TurnChange → Lent ℕ → Lent Float → Type 0
ListsChange k k' c indices records = ListedOne k k' c indices.entry.now indices.exit.now records.entry.now records.exit.now

-- the changes of the bins below i, and how many those are
abbrev pub ListsBelow : (ℕ → TurnCell → TurnCell) → List Float → ℕ → ℕ → Lent ℕ → Lent Float → Type 0
ListsBelow f cs i k indices records = Listing f cs i k indices.entry.now indices.exit.now records.entry.now records.exit.now

-- what a rule proposes, with the room that is lent: counted, and as the list of a stock with this stamp
abbrev pub Tallies : (ℕ → Paper (List TurnChange)) → (Result ℕ Refusal) → Lent ℕ → Lent Float → Type 0
Tallies rule r indices records = Tallied (rule (room_in indices records)) r indices.entry.now indices.exit.now records.entry.now records.exit.now

abbrev pub Proposes : Stamp → (ℕ → Paper (List TurnChange)) → (Result ChangeList Refusal) → Lent ℕ → Lent Float → Type 0
Proposes st rule r indices records = Proposed st (rule (room_in indices records)) r indices.entry.now indices.exit.now records.entry.now records.exit.now

-- there is room for the changes of the bins below n
abbrev pub RoomFor : (ℕ → TurnCell → TurnCell) → List Float → ℕ → List ℕ → List Float → Type 0
RoomFor f cs n is xs = length (changes_to f cs n) ≤ room_of (length is) (length xs)
