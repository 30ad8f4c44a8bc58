-- A stock file read: its bytes as they come, what its end tells, and the rule of a whole file. Assumes nothing.
use Rattle.std.specs.Prelude.{◌≡◌, ℕ, ◌+◌, ◌*◌, ◌/◌, ◌≤◌, ◌<◌, min, Bool, false, not, List, [], ltb, leb, eqb, length, take, drop, Float}
use Rattle.refusals.specs.Paper.{Paper, answers, demand, demand_at, onward}
use Rattle.refusals.specs.Lent.{Lent, over}
use Rattle.floats.specs.Pick.{pick}
use Rattle.floats.specs.Numbers.{zero64}
use Rattle.stock.specs.declared.TurnStockSpec.{TurnStockSpec}
use Rattle.stock.specs.Spec.{clean_spec}
use Rattle.stock.specs.Cell.{stock_of}
use Rattle.stock.specs.Stock.{stock_from}
use Rattle.rings.specs.Store.{bar_ring, count_fits}
use Rattle.text.specs.Wrote.{line_room}
use Rattle.lines.specs.File.{pieces_of, over_pieces}
use Rattle.lines.specs.Hands.{Hand, hand, byte_on, takes}
use Rattle.stock_lines.specs.declared.Bar.{Bar}
use Rattle.stock_lines.specs.declared.Reading.{Reading}
use Rattle.stock_lines.specs.Reading.{State, state, refusing, on_line, state_found, state_left}
use Rattle.stock_file.specs.declared.Taken.{Taken}
use Rattle.stock_file.specs.declared.Run.{Run}
use Rattle.stock_file.specs.declared.Kept.{Kept}

-- before the first line
abbrev pub fresh_reading : Reading
fresh_reading =
    record {
      stage = 0;
      form = 0;
      edition = 0;
      bar = record { z_min_mm = zero64; z_max_mm = zero64; outer_radius_mm = zero64; bore_radius_mm = zero64; cell_mm = zero64 };
      cells = 0;
      rings = 0;
      lines = 0;
      refused = false;
    }

-- ---- the bytes, one by one

-- a refused line is the last
abbrev pub stopped : State → Bool
stopped st = st.reading.refused

-- a line that is too long, that the end cuts off, or that is missing
abbrev pub on_long : State → State
on_long st = state (refusing st.reading) st.cells st.rings

-- the end behind a whole line: `end` is to have been there
abbrev pub on_end : State → State
on_end st = pick (ltb st.reading.stage 2) (on_long st) st

-- of an unfinished line so many bytes are held, 127 at most
abbrev pub held_in : ℕ → List ℕ → List ℕ
held_in len l = take (min len 127) l

-- some bytes more, behind an unfinished line
abbrev pub taking : State → List ℕ → List ℕ → Hand State
taking st held s = takes stopped on_line on_long (hand st held) s

-- what `take_part` leaves: the reading and the lent room, and the unfinished line over the front of the lent one
pub record TakesPart (reading : Reading) (len : ℕ) (cells rings : Lent Float) (line : Lent ℕ) (s : List ℕ) (r : Taken) : Type 0 where
  pub room : length line.entry.now ≡ line_room
  pub reads : state_left r.reading cells rings ≡ (taking (state_found reading cells rings) (held_in len line.entry.now) s).job
  pub holds : r.len ≡ length (taking (state_found reading cells rings) (held_in len line.entry.now) s).held
  pub keeps : line.exit.now ≡ over (taking (state_found reading cells rings) (held_in len line.entry.now) s).held line.entry.now

-- the same inside a call, where the unfinished line is the first bytes of a line of its own
pub record ByteTaken (reading : Reading) (len : ℕ) (cells rings : Lent Float) (line : Lent ℕ) (b : ℕ) (r : Taken) : Type 0 where
  pub same : hand (state_left r.reading cells rings) (take r.len line.exit.now) ≡ byte_on stopped on_line on_long (hand (state_found reading cells rings) (take len line.entry.now)) b
  pub few : r.len ≤ 127
  pub room : length line.exit.now ≡ line_room

-- r bytes of s from a place on, none of them a newline, held behind the first len of a line: whatever the reading is that goes on, it takes them so
pub record HoldsOn (len : ℕ) (l s : List ℕ) (from r : ℕ) (l' : List ℕ) : Type 0 where
  pub same : (st : State) → stopped st ≡ false → taking st (take len l) (drop from s) ≡ taking st (take (len + r) l') (drop (from + r) s)
  pub few : len + r ≤ 127
  pub room : length l' ≡ line_room
  pub reach : from + r ≤ length s

-- the bytes of s from a place on up to another, which is behind it
pub record RunTaken (reading : Reading) (len : ℕ) (cells rings : Lent Float) (line : Lent ℕ) (s : List ℕ) (from : ℕ) (r : Run) : Type 0 where
  pub same : taking (state_found reading cells rings) (take len line.entry.now) (drop from s) ≡ taking (state_left r.reading cells rings) (take r.len line.exit.now) (drop r.at s)
  pub few : r.len ≤ 127
  pub room : length line.exit.now ≡ line_room
  pub on : from < r.at
  pub reach : r.at ≤ length s

pub record BytesTaken (reading : Reading) (len : ℕ) (cells rings : Lent Float) (line : Lent ℕ) (s : List ℕ) (r : Taken) : Type 0 where
  pub same : hand (state_left r.reading cells rings) (take r.len line.exit.now) ≡ taking (state_found reading cells rings) (take len line.entry.now) s
  pub few : r.len ≤ 127
  pub room : length line.exit.now ≡ line_room

-- ---- the end

-- the reading at the end, where so many bytes of an unfinished line are held
unfoldable pub ended : Reading → ℕ → Reading
ended r n = pick r.refused r (pick (eqb n 0) (pick (ltb r.stage 2) (refusing r) r) (refusing r))

-- a bar's spec; max_cells is the reader's
abbrev pub spec_of : Bar → ℕ → TurnStockSpec
spec_of b most = record { z_min_mm = b.z_min_mm; z_max_mm = b.z_max_mm; outer_radius_mm = b.outer_radius_mm; bore_radius_mm = b.bore_radius_mm; cell_mm = b.cell_mm; max_cells = most }

-- the first n fours of numbers, and none where the list does not reach so far
unfoldable pub front_of : ℕ → List Float → List Float
front_of n xs = pick (leb n (length xs / 4)) (take (4 * n) xs) []

-- the stock of a file, at generation 0
abbrev pub stocked_of : TurnStockSpec → ℕ → ℕ → ℕ → Kept
stocked_of spec edition n m = record { stock = stock_from (clean_spec spec) edition m 0; cells = n }

-- a whole file of an edition, with n cells and m rings; 1, 2, 3 also where n is another number or more than the room, 4
unfoldable pub stock_in : TurnStockSpec → ℕ → ℕ → List Float → ℕ → List Float → Paper Kept
stock_in spec edition n cs m rs =
    onward (stock_of spec (front_of n cs)) (λ k.
    demand (count_fits (bar_ring (clean_spec spec)) rs m) 4
    (answers (stocked_of spec edition k m)))

-- what a reading tells at its end: 16 at the line that was refused, or else the stock
unfoldable pub told_as : Reading → ℕ → List Float → List Float → Paper Kept
told_as r most cs rs = demand_at (not r.refused) 16 r.lines (stock_in (spec_of r.bar most) r.edition r.cells cs r.rings rs)

-- ---- a whole file, in a lent room

-- what its lines leave, and what stands behind the last newline
abbrev pub file_in : List Float → List Float → List ℕ → State
file_in cs rs s = over_pieces stopped on_line on_long on_end (state fresh_reading cs rs) (pieces_of s)

-- what it tells; 16, 1, 2, 3, 4
abbrev pub read_of : ℕ → List Float → List Float → List ℕ → Paper Kept
read_of most cs rs s = told_as (file_in cs rs s).reading most (file_in cs rs s).cells (file_in cs rs s).rings
