-- A stock's file put together to be written. No contract can say what a write takes: it is said what is handed to it, and in which order. Assumes nothing.
use Rattle.std.specs.Prelude.{◌≡◌, false, List, [], ℕ, ◌+◌, take, Float}
use Rattle.refusals.specs.Paper.{Paper, answers, refuses}
use Rattle.stock.specs.declared.TurnStock.{TurnStock}
use Rattle.streams.specs.declared.Out.{Out}
use Rattle.streams.specs.Moves.{Gathers}
use Rattle.stock_file.specs.Write.{opening_of, file_of, line_count}

-- the bytes of a line; of one that is refused, none
abbrev pub text_in : Paper (List ℕ) → List ℕ
text_in (answers s) = s
text_in (refuses r) = []

-- unless a write failed: what was handed on to be written, and behind it what is gathered
pub record AllPut (bytes : List ℕ) (out : Out) (buf : List ℕ) : Type 0 where
  pub all : out.failed ≡ false → Gathers [] bytes (take out.len buf)

-- a stock that 1 to 4 accept, with so many cells
pub record Asked (k : TurnStock) (cs rs : List Float) : Type 0 where
  pub cells : ℕ
  pub accepted : line_count k.spec cs rs k.rings ≡ answers (cells + k.rings + 2)

-- unless it is refused or a write failed, the whole file of a stock
pub record PutsStock (k : TurnStock) (cs rs : List Float) (out : Out) (buf : List ℕ) : Type 0 where
  pub asked : out.failed ≡ false → Asked k cs rs
  pub put : (f : out.failed ≡ false) → AllPut (file_of (opening_of k (asked f).cells) cs (asked f).cells rs k.rings) out buf
