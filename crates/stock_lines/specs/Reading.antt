-- A file read line by line: what each line does to the reading and to the lent room. Assumes nothing.
use Rattle.std.specs.Prelude.{ℕ, ◌+◌, ◌%◌, ◌^◌, true, false, List, ◌==◌, nat_lt, Float, Option, Some, None}
use Rattle.refusals.specs.Lent.{Lent}
use Rattle.refusals.specs.Limits.{ring_limit}
use Rattle.floats.specs.Pick.{pick}
use Rattle.stock_lines.specs.declared.Reading.{Reading}
use Rattle.stock_lines.specs.declared.form.First.{First}
use Rattle.stock_lines.specs.declared.room.Took.{Took}
use Rattle.stock_lines.specs.declared.room.Took.TheVariants.{Cell, Ring, End, NoLine}
use Rattle.stock_lines.specs.Form.{form_of}
use Rattle.stock_lines.specs.First.{first_of}
use Rattle.stock_lines.specs.Room.{stored, cell_at, took_of, rings_left_after}

-- a reading with the lent room of its cells and its rings
pub record State : Type 0 where
  pub reading : Reading
  pub cells : List Float
  pub rings : List Float

abbrev pub state : Reading → List Float → List Float → State
state r cs rs = record { reading = r; cells = cs; rings = rs }

-- the number of the next line
abbrev pub next : Reading → ℕ
next r = (r.lines + 1) % 2 ^ 64

-- rings are counted so far: one more than are stored
abbrev pub ring_count : ℕ
ring_count = ring_limit + 1

-- one more, as far as is counted
unfoldable pub count_to : ℕ → ℕ → ℕ
count_to limit n = pick (nat_lt n limit) (n + 1) n

-- the next line is not of the form
unfoldable pub refusing : Reading → Reading
refusing r = record { stage = r.stage; form = r.form; edition = r.edition; bar = r.bar; cells = r.cells; rings = r.rings; lines = next r; refused = true }

-- the first line
unfoldable pub begun : Reading → Option First → Reading
begun r (Some f) = record { stage = 1; form = f.form; edition = f.edition; bar = f.bar; cells = r.cells; rings = r.rings; lines = next r; refused = false }
begun r None = refusing r

-- one line more behind the first, with what is known now
unfoldable pub onward_to : Reading → ℕ → ℕ → ℕ → Reading
onward_to r stage n m = record { stage = stage; form = r.form; edition = r.edition; bar = r.bar; cells = n; rings = m; lines = next r; refused = false }

-- a line behind the first
unfoldable pub went : Reading → Took → Reading
went r Cell = onward_to r 1 (count_to (form_of r.form).most r.cells) r.rings
went r Ring = onward_to r 1 r.cells (count_to ring_count r.rings)
went r End = onward_to r 2 r.cells r.rings
went r NoLine = refusing r

-- a line behind the first, its numbers stored
unfoldable pub on_body : State → List ℕ → State
on_body st s =
    let r = st.reading in
    let k = r.form in
    state (went r (took_of k r.cells r.rings r.lines s)) (stored (form_of k).most st.cells r.cells (cell_at k r.cells r.rings s)) (rings_left_after k r.cells r.rings s st.rings)

-- the next line: the first, one behind it, or one behind `end`
unfoldable pub on_line : State → List ℕ → State
on_line st s =
    pick (st.reading.stage == 0) (state (begun st.reading (first_of s)) st.cells st.rings)
    (pick (st.reading.stage == 1) (on_body st s)
    (state (refusing st.reading) st.cells st.rings))

-- a reading as a call finds it in lent memory, and as it leaves it
abbrev pub state_found : Reading → Lent Float → Lent Float → State
state_found r cells rings = state r cells.entry.now rings.entry.now

abbrev pub state_left : Reading → Lent Float → Lent Float → State
state_left r cells rings = state r cells.exit.now rings.exit.now
