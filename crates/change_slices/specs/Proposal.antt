-- What a tool's preview leaves in the records, by way of flat lists. Assumes nothing.
use Rattle.std.specs.Prelude.{◌≡◌, List, ℕ, ◌≤◌, ltb, length, Float, Err, Ok, Result}
use Rattle.refusals.specs.Number.{paper_of}
use Rattle.refusals.specs.declared.Refusal.{Refusal}
use Rattle.refusals.specs.declared.Refusal.TheVariants.{ChangesOverRoom}
use Rattle.refusals.specs.Paper.{Paper, onward}
use Rattle.refusals.specs.Lent.{Lent, over}
use Rattle.floats.specs.Pick.{pick}
use Rattle.stock.specs.declared.TurnChange.{TurnChange}
use Rattle.stock.specs.declared.Stamp.{Stamp}
use Rattle.changes.specs.declared.ChangeList.{ChangeList}
use Rattle.changes.specs.Change.{room_of, room_in, changes_from, stamped, settled, count_of, written_of}

-- the answer, of a stock with this stamp, and the records after a proposal: its changes over the front, the rest as it was
pub record Written (st : Stamp) (p : Paper (List TurnChange)) (r : Result ChangeList Refusal) (l l' : List TurnChange) : Type 0 where
  pub answer : paper_of r ≡ stamped st (count_of p)
  pub records : l' ≡ over (written_of p) l

-- what a rule proposes into lent records, with the room that they are
abbrev pub Writes : Stamp → (ℕ → Paper (List TurnChange)) → Result ChangeList Refusal → Lent TurnChange → Type 0
Writes st rule r changes = Written st (rule (length changes.entry.now)) r changes.entry.now changes.exit.now

-- ---- by way of flat lists

-- how many changes an answer counts; none where it is a refusal
abbrev pub count_in : Result ChangeList Refusal → ℕ
count_in (Ok l) = l.count
count_in (Err c) = 0

-- 6 where it counts more than room
unfoldable pub narrow_answer : ℕ → Result ChangeList Refusal → Result ChangeList Refusal
narrow_answer room (Ok l) = pick (ltb room l.count) (Err ChangesOverRoom) (Ok l)
narrow_answer room (Err c) = Err c

-- the same of a proposal
abbrev pub narrowed : ℕ → Paper (List TurnChange) → Paper (List TurnChange)
narrowed room p = onward p (settled room)

-- the flat lists have its changes at the front, no more than room
pub record ListsRecords (st : Stamp) (room : ℕ) (p : Paper (List TurnChange)) (r : Result ChangeList Refusal) (is : List ℕ) (xs : List Float) : Type 0 where
  pub answer : paper_of r ≡ stamped st (count_of p)
  pub changes : changes_from is xs (count_in r) ≡ written_of p
  pub held : count_in r ≤ room_of (length is) (length xs)
  pub few : count_in r ≤ room

-- so of a rule with the room that the flat lists have, narrowed
abbrev pub ListsIn : Stamp → ℕ → (ℕ → Paper (List TurnChange)) → Result ChangeList Refusal → Lent ℕ → Lent Float → Type 0
ListsIn st room rule r indices records = ListsRecords st room (narrowed room (rule (room_in indices records))) r indices.exit.now records.exit.now
