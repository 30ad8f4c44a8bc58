-- A job as its bytes come: its lines one by one, to the first refusal. Assumes nothing.
use Rattle.std.specs.Prelude.{◌≡◌, ℕ, ◌+◌, ◌-◌, ◌*◌, ◌%◌, ◌^◌, Bool, not, ◌&&◌, List, [], ◌∷◌, ◌++◌, length, take, ◌==◌, nat_lt, slice_set, Float}
use mathlib.Core.List.{foldl}
use Rattle.refusals.specs.declared.Refusal.{Refusal}
use Rattle.refusals.specs.declared.Refusal.TheVariants.{LineMalformed}
use Rattle.refusals.specs.Number.{number_of}
use Rattle.refusals.specs.Paper.{Paper, answers, refuses}
use Rattle.refusals.specs.Lent.{Lent}
use Rattle.floats.specs.Pick.{pick}
use Rattle.floats.specs.Numbers.{zero64}
use Rattle.stock.specs.declared.TurnStockSpec.{TurnStockSpec}
use Rattle.stock.specs.declared.TurnStock.{TurnStock}
use Rattle.stock.specs.Stock.{new_stock}
use Rattle.job_words.specs.Kind.{most_cells}
use Rattle.job_run.specs.Job.{Stand, line_limit, full_room, job_line}
use Rattle.job_answer.specs.Answer.{answer_of}
use Rattle.job_run.specs.declared.Run.{Run}
use Rattle.job_run.specs.declared.Taken.{Taken}
use Rattle.lines.specs.File.{over_pieces, pieces_of}

-- a run with the lent numbers of its cells and its rings
pub record State : Type 0 where
  pub run : Run
  pub cells : List Float
  pub rings : List Float

abbrev pub state : Run → List Float → List Float → State
state r cs rs = record { run = r; cells = cs; rings = rs }

-- before the first line, with a stock, whose cells and rings stand first in the lent numbers: its bar is given
abbrev pub resumed_run : TurnStock → ℕ → Run
resumed_run k n = record { job = record { stock = k; cells = n }; lines = 0; refused = 0 }

-- a spec of no bar
abbrev pub no_spec : TurnStockSpec
no_spec = record { z_min_mm = zero64; z_max_mm = zero64; outer_radius_mm = zero64; bore_radius_mm = zero64; cell_mm = zero64; max_cells = 0 }

-- the same with no cells, no rings, at generation 0, but with the edition that the stock will have
abbrev pub fresh_run : ℕ → Run
fresh_run edition = resumed_run (new_stock no_spec edition) 0

-- ---- a line

-- the number of the next line
abbrev pub next : Run → ℕ
next r = (r.lines + 1) % 2 ^ 64

-- the next line refused with n
unfoldable pub refused_with : Run → ℕ → Run
refused_with r n = record { job = r.job; lines = next r; refused = n }

abbrev pub refusing : Run → Refusal → Run
refusing r c = refused_with r (number_of c)

-- the next line answered
unfoldable pub answered : State → Paper Stand → State
answered st (answers s) = state (record { job = s.job; lines = next st.run; refused = 0 }) s.cells s.rings
answered st (refuses n) = state (refused_with st.run n.number) st.cells st.rings

-- the next line carried out, with room for a change of every cell
unfoldable pub on_line : State → List ℕ → State
on_line st s = answered st (job_line st.run.job s full_room st.cells st.rings)

-- a line that is too long, or that the input's end cuts off, and an input with no line where no bar is given
abbrev pub on_long : State → State
on_long st = state (refusing st.run LineMalformed) st.cells st.rings

-- a refused line is the last
abbrev pub stopped : State → Bool
stopped st = not (st.run.refused == 0)

-- ---- the bytes, one by one

-- a run with the lent bytes of the unfinished line, which is the first len of them
pub record Hold : Type 0 where
  pub state : State
  pub line : List ℕ
  pub len : ℕ

abbrev pub hold : State → List ℕ → ℕ → Hold
hold st l n = record { state = st; line = l; len = n }

-- a byte goes behind the held ones: a newline ends the line, any other byte is held, or is one too many
unfoldable pub byte_on : Hold → ℕ → Hold
byte_on h b =
    pick (stopped h.state) h
    (pick (b == 10) (hold (on_line h.state (take h.len h.line)) (slice_set h.line h.len b) 0)
    (pick (nat_lt h.len (line_limit - 1)) (hold h.state (slice_set h.line h.len b) (h.len + 1))
    (hold (on_long h.state) (slice_set h.line h.len b) 0)))

-- so many rings at most
abbrev pub max_rings : ℕ
max_rings = 64

-- the room of a job: four numbers for each of its cells and rings, and a line with its newline
pub record JobRoom (cs rs : List Float) (l : List ℕ) : Type 0 where
  pub cells : length cs ≡ 4 * most_cells
  pub rings : length rs ≡ 4 * max_rings
  pub line : length l ≡ line_limit

-- a run as a call finds it in lent memory, and as it leaves it
abbrev pub state_found : Run → Lent Float → Lent Float → State
state_found r cells rings = state r cells.entry.now rings.entry.now

abbrev pub state_left : Run → Lent Float → Lent Float → State
state_left r cells rings = state r cells.exit.now rings.exit.now

abbrev pub as_found : Run → ℕ → Lent Float → Lent Float → Lent ℕ → Hold
as_found r n cells rings line = hold (state_found r cells rings) line.entry.now n

abbrev pub as_left : Run → ℕ → Lent Float → Lent Float → Lent ℕ → Hold
as_left r n cells rings line = hold (state_left r cells rings) line.exit.now n

-- bytes taken by a run, in the room that a job has
pub record TakesPart (run : Run) (len : ℕ) (cells rings : Lent Float) (line : Lent ℕ) (bytes : List ℕ) (r : Taken) : Type 0 where
  pub room : JobRoom cells.entry.now rings.entry.now line.entry.now
  pub same : as_left r.run r.len cells rings line ≡ foldl byte_on (as_found run len cells rings line) bytes

-- ---- the end

-- no line was taken, and no bar is given
abbrev pub is_empty : Run → Bool
is_empty r = r.lines == 0 && r.job.cells == 0

-- the run at the input's end, where so many bytes of an unfinished line are held
unfoldable pub finish_of : Run → ℕ → Run
finish_of r n =
    pick (not (r.refused == 0)) r
    (pick (not (n == 0)) (refusing r LineMalformed)
    (pick (is_empty r) (refusing r LineMalformed) r))

-- the job's own cells and rings stand first in the lent ones
unfoldable pub output_of : State → List (List ℕ)
output_of st = answer_of st.run.refused st.run.lines st.run.job.stock.stamp.generation (take (4 * st.run.job.cells) st.cells) (take (4 * st.run.job.stock.rings) st.rings)

-- a line for each cell and each ring, and one for the generation
abbrev pub most_lines : ℕ
most_lines = most_cells + max_rings + 1

-- ---- a whole file, which no byte of it is taken apart for

abbrev pub on_end : State → State
on_end st = pick (is_empty st.run) (on_long st) st

-- what its lines do in order, and what stands behind the last newline
abbrev pub job_of : State → List ℕ → State
job_of st s = over_pieces stopped on_line on_long on_end st (pieces_of s)

-- input that is cut off behind these bytes: it ends inside its next line, whatever byte that went on with
abbrev pub cut_of : State → List ℕ → State
cut_of st s = job_of st (s ++ (0 ∷ []))
