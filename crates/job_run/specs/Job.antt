-- What a line does to a job. Assumes nothing.
use Rattle.std.specs.Prelude.{◌≡◌, ℕ, ◌*◌, List, [], length, take, ◌==◌, nat_le, nat_lt, Float, Err, Ok, Result}
use Rattle.refusals.specs.declared.Refusal.{Refusal}
use Rattle.refusals.specs.Number.{reason_of, paper_of}
use Rattle.refusals.specs.Paper.{Paper, answers, refuses, only, demand, onward}
use Rattle.refusals.specs.Lent.{Lent, over}
use Rattle.floats.specs.Pick.{pick}
use Rattle.stock.specs.declared.TurnStockSpec.{TurnStockSpec}
use Rattle.stock.specs.declared.TurnChange.{TurnChange}
use Rattle.stock.specs.declared.TurnStock.{TurnStock}
use Rattle.stock.specs.Spec.{clean_spec, cells_of}
use Rattle.stock.specs.Cell.{fresh_cell, cells_like}
use Rattle.stock.specs.Stock.{new_stock, stock_with}
use Rattle.changes.specs.Change.{indices_of, numbers_of, room_of, written_of}
use Rattle.cuts.specs.declared.Cut.{Cut}
use Rattle.cuts.specs.Preview.{preview_cut}
use Rattle.changes.specs.Commit.{Committed, own_commit}
use Rattle.rings.specs.declared.Ring.{Ring}
use Rattle.rings.specs.Store.{store_as}
use Rattle.rings.specs.Remove.{remove_ring}
use Rattle.job_words.specs.declared.Line.{Line}
use Rattle.job_words.specs.declared.Line.TheVariants.{Bar, Cutting, Removing, Arc, Bad}
use Rattle.job_words.specs.Kind.{most_cells, line_of}
use Rattle.job_run.specs.declared.line.Job.{Job}

-- 128 bytes at most, with the newline
abbrev pub line_limit : ℕ
line_limit = 128

-- room for a change of every cell
abbrev pub full_room : ℕ
full_room = most_cells

-- two lists with that room
abbrev pub Full : List ℕ → List Float → Type 0
Full is xs = room_of (length is) (length xs) ≡ full_room

-- a job, and the lent numbers of its cells and its rings
pub record Stand : Type 0 where
  pub job : Job
  pub cells : List Float
  pub rings : List Float

abbrev pub stand : Job → List Float → List Float → Stand
stand j cs rs = record { job = j; cells = cs; rings = rs }

-- ---- each kind of line

-- a bar: new cells over the front of the lent ones, of this edition, no rings, generation 0; 1, 2, and 3 where the lent ones are too few
unfoldable pub bar_line : ℕ → TurnStockSpec → List Float → List Float → Paper Stand
bar_line edition spec cs rs =
    onward (cells_of spec) (λ n.
    demand (nat_le (4 * n) (length cs)) 3
    (answers (stand (record { stock = new_stock spec edition; cells = n }) (over (cells_like (fresh_cell (clean_spec spec)) n) cs) rs)))

-- a cut: its preview, with room for so many changes, and the commit of its list, which is the stock's own
unfoldable pub made_cut : TurnStock → List Float → Cut → ℕ → Paper Committed
made_cut k cs cut room = onward (preview_cut k.spec cs cut room) (λ l. own_commit k.spec cs k.stamp.generation l)

-- the job's cells, which stand first in the lent ones
abbrev pub cells_of_job : Job → List Float → List Float
cells_of_job j cs = take (4 * j.cells) cs

unfoldable pub cut_line : Job → Cut → ℕ → List Float → List Float → Paper Stand
cut_line j cut room cs rs =
    onward (made_cut j.stock (cells_of_job j cs) cut room) (λ k.
    answers (stand (record { stock = stock_with j.stock j.stock.rings k.generation; cells = j.cells }) (over k.cells cs) rs))

-- a ring: one more removed from the stock
unfoldable pub removing_line : Job → Ring → List Float → List Float → Paper Stand
removing_line j q cs rs =
    onward (remove_ring j.stock.spec rs j.stock.rings j.stock.stamp.generation q) (λ s.
    answers (stand (record { stock = stock_with j.stock (length s.rings) s.generation; cells = j.cells }) cs (store_as rs s.rings)))

-- ---- a line by its place

-- anything but a bar before it is 15, an arc too
unfoldable pub first_line : ℕ → Line → List Float → List Float → Paper Stand
first_line edition (Bar spec) cs rs = bar_line edition spec cs rs
first_line edition (Cutting cut) cs rs = refuses (only 15)
first_line edition (Removing q) cs rs = refuses (only 15)
first_line edition Arc cs rs = refuses (only 15)
first_line edition Bad cs rs = refuses (only 15)

-- an arc is 13, a second bar 15
unfoldable pub later_line : Job → Line → ℕ → List Float → List Float → Paper Stand
later_line j (Bar spec) room cs rs = refuses (only 15)
later_line j (Cutting cut) room cs rs = cut_line j cut room cs rs
later_line j (Removing q) room cs rs = removing_line j q cs rs
later_line j Arc room cs rs = refuses (only 13)
later_line j Bad room cs rs = refuses (only 15)

-- the bytes of a line without its newline: 15 where it is too long, then by its place
unfoldable pub job_line : Job → List ℕ → ℕ → List Float → List Float → Paper Stand
job_line j s room cs rs =
    demand (nat_lt (length s) line_limit) 15
    (pick (j.cells == 0) (first_line j.stock.stamp.edition (line_of s) cs rs) (later_line j (line_of s) room cs rs))

-- ---- the changes that a line writes into lists that are lent for them: those that a later cut's preview accepts
unfoldable pub line_changes : Job → Line → ℕ → List Float → List TurnChange
line_changes j (Bar spec) room cs = []
line_changes j (Cutting cut) room cs = written_of (preview_cut j.stock.spec (cells_of_job j cs) cut room)
line_changes j (Removing q) room cs = []
line_changes j Arc room cs = []
line_changes j Bad room cs = []

unfoldable pub job_changes : Job → List ℕ → ℕ → List Float → List TurnChange
job_changes j s room cs = pick (nat_lt (length s) line_limit) (pick (j.cells == 0) [] (line_changes j (line_of s) room cs)) []

-- ---- what the call answers, case by case, and what the lent numbers hold afterwards

-- a job tells the number alone
abbrev pub job_after : Paper Stand → Paper Job
job_after (answers s) = answers s.job
job_after (refuses n) = refuses (only n.number)

-- a refusal leaves them
abbrev pub cells_carried : Paper Stand → List Float → List Float
cells_carried (answers s) cs = s.cells
cells_carried (refuses n) cs = cs

abbrev pub rings_carried : Paper Stand → List Float → List Float
rings_carried (answers s) rs = s.rings
rings_carried (refuses n) rs = rs

pub record Carries (p : Paper Stand) (r : Result Job Refusal) (cs cs' rs rs' : List Float) : Type 0 where
  pub answer : paper_of r ≡ job_after p
  pub cells : cs' ≡ cells_carried p cs
  pub rings : rs' ≡ rings_carried p rs

-- the same of a line that leaves the rings, whatever they are
abbrev pub CarriesCells : (List Float → Paper Stand) → (Result Job Refusal) → List Float → List Float → Type 0
CarriesCells p r cs cs' = (rs : List Float) → Carries (p rs) r cs cs' rs rs

-- and of one that leaves the cells
abbrev pub CarriesRings : (List Float → List Float → Paper Stand) → (Result Job Refusal) → List Float → List Float → Type 0
CarriesRings p r rs rs' = (cs : List Float) → Carries (p cs rs) r cs cs rs rs'

-- lent lists with changes over their fronts
pub record ChangesOver (l : List TurnChange) (is is' : List ℕ) (xs xs' : List Float) : Type 0 where
  pub indices : is' ≡ over (indices_of l) is
  pub numbers : xs' ≡ over (numbers_of l) xs

-- ---- the same of what is lent, at its two moments

-- so many changes find room in two lent lists
abbrev pub lent_room : Lent ℕ → Lent Float → ℕ
lent_room indices records = room_of (length indices.entry.now) (length records.entry.now)

abbrev pub CarriesLent : (List Float → List Float → Paper Stand) → (Result Job Refusal) → Lent Float → Lent Float → Type 0
CarriesLent p r cells rings =
    Carries (p cells.entry.now rings.entry.now) r cells.entry.now cells.exit.now rings.entry.now rings.exit.now

abbrev pub CellsLent : (List Float → List Float → Paper Stand) → (Result Job Refusal) → Lent Float → Type 0
CellsLent p r cells = CarriesCells (p cells.entry.now) r cells.entry.now cells.exit.now

abbrev pub RingsLent : (List Float → List Float → Paper Stand) → (Result Job Refusal) → Lent Float → Type 0
RingsLent p r rings = CarriesRings p r rings.entry.now rings.exit.now

abbrev pub ListsLent : List TurnChange → Lent ℕ → Lent Float → Type 0
ListsLent l indices records = ChangesOver l indices.entry.now indices.exit.now records.entry.now records.exit.now
