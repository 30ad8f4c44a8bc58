-- Two files read and what differs between them put together to be written. No contract can say which bytes come, nor what a write takes: a promise here says that there are some of which is handed on, in its order, what differs between them. Assumes nothing.
use Rattle.std.specs.Prelude.{◌≡◌, List, ℕ, ◌*◌, length, Float}
use Rattle.refusals.specs.Limits.{cell_limit, ring_limit}
use Rattle.refusals.specs.Paper.{answers}
use Rattle.streams.specs.declared.Out.{Out}
use Rattle.stock_file.specs.declared.Kept.{Kept}
use Rattle.stock_streams.specs.Write.{AllPut}
use Rattle.side_by_side.specs.Files.{Told, second_text, files_text, told_of}

-- some bytes, and the room that they are read in, of as many cells and rings as a stock has at most
pub record SomeFile : Type 0 where
  pub bytes : List ℕ
  pub cells : List Float
  pub rings : List Float
  pub cell_room : length cells ≡ 4 * cell_limit
  pub ring_room : length rings ≡ 4 * ring_limit

-- what they tell
abbrev pub told_by : SomeFile → Told
told_by f = told_of cell_limit f.cells f.rings f.bytes

-- the first file told the stock k, which stands in a room: what the second makes of it
pub record SecondPut (k : Kept) (cs rs : List Float) (out : Out) (buf : List ℕ) : Type 0 where
  pub second : SomeFile
  pub put : AllPut (second_text k (record { tells = answers k; cells = cs; rings = rs }) (told_by second).tells (told_by second)) out buf

-- two files
pub record FilesPut (out : Out) (buf : List ℕ) : Type 0 where
  pub first : SomeFile
  pub second : SomeFile
  pub put : AllPut (files_text (told_by first) (told_by second)) out buf
