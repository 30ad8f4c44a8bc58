-- The answer of a job put together to be written. No contract can say what a write takes: it is said what is handed to it, and in which order. Assumes nothing.
use Rattle.std.specs.Prelude.{◌≡◌, false, List, [], ℕ, ◌≤◌, length, take, get_or}
use Rattle.streams.specs.declared.Out.{Out}
use Rattle.streams.specs.Moves.{Gathers, Puts}
use Rattle.lines.specs.File.{joined}
use Rattle.job_run.specs.Run.{most_lines}

-- line k of an answer put behind what is gathered; past its last line, nothing
pub record PutsLine (lines : List (List ℕ)) (k : ℕ) (out : Out) (buf : List ℕ) (r : Out) (buf' : List ℕ) : Type 0 where
  pub most : length lines ≤ most_lines
  pub puts : Puts out buf (get_or lines k []) r buf'

-- unless a write failed, all the lines in order: what was handed on to be written, and behind it what is gathered
pub record AllPut (lines : List (List ℕ)) (out : Out) (buf : List ℕ) : Type 0 where
  pub all : out.failed ≡ false → Gathers [] (joined lines) (take out.len buf)
