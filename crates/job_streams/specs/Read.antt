-- A job read from a reader. No contract can say which bytes come: a promise here says that there are some of which the run is the job. Assumes nothing.
use Rattle.std.specs.Prelude.{◌≡◌, ℕ, eqb, take, Float}
use mathlib.Core.List.{List, foldl}
use Rattle.refusals.specs.Lent.{Lent}
use Rattle.floats.specs.Pick.{pick}
use Rattle.streams.specs.declared.Got.{Got}
use Rattle.streams.specs.declared.Got.TheVariants as got
use Rattle.streams.specs.Brought.{brought_by}
use Rattle.job_run.specs.declared.Run.{Run}
use Rattle.job_run.specs.Run.{State, state, Hold, byte_on, JobRoom, as_found, as_left, finish_of, job_of, cut_of}
use Rattle.job_streams.specs.declared.End.{End}
use Rattle.job_streams.specs.declared.End.TheVariants as ends
use Rattle.job_streams.specs.declared.Ended.{Ended}

-- k is h after some bytes more
pub record After (h k : Hold) : Type 0 where
  pub bytes : List ℕ
  pub same : k ≡ foldl byte_on h bytes

-- a run in the room of a job, which reads on: it is what it was after some bytes more
pub record ReadsOn (run : Run) (len : ℕ) (cells rings : Lent Float) (line : Lent ℕ) (r : Run) (n : ℕ) : Type 0 where
  pub room : JobRoom cells.entry.now rings.entry.now line.entry.now
  pub after : After (as_found run len cells rings line) (as_left r n cells rings line)

-- the same, by the bytes that a read brought to the front of what was lent to it
pub record ReadsPart (run : Run) (len : ℕ) (cells rings : Lent Float) (line : Lent ℕ) (g : Got) (part : List ℕ) (r : Run) (n : ℕ) : Type 0 where
  pub room : JobRoom cells.entry.now rings.entry.now line.entry.now
  pub same : as_left r n cells rings line ≡ foldl byte_on (as_found run len cells rings line) (take (brought_by g) part)

-- ---- the end

-- where the input ends, by the bytes that are held of an unfinished line
abbrev pub end_at : ℕ → End
end_at n = pick (eqb n 0) ends.Whole ends.Inside

-- a run at the end of its input
abbrev pub whole_end : Run → ℕ → Ended
whole_end r n = record { run = finish_of r n; end = end_at n }

-- cut off, unless it was refused before
abbrev pub cut_at : ℕ → End
cut_at n = pick (eqb n 0) ends.Cut ends.Whole

-- one whose input is cut off: that ends inside its next line, as if a byte of it were held
abbrev pub cut_end : Run → Ended
cut_end r = record { run = finish_of r 1; end = cut_at r.refused }

-- a run after its last read
abbrev pub end_by : Got → Run → ℕ → Ended
end_by got.End r n = whole_end r n
end_by got.Cut r n = cut_end r
end_by (got.Bytes k) r n = cut_end r

-- the job of a file, or of one that is cut off behind these bytes
abbrev pub job_by : End → State → List ℕ → State
job_by ends.Whole st s = job_of st s
job_by ends.Inside st s = job_of st s
job_by ends.Cut st s = cut_of st s

-- b is what the job of some bytes, which end so, makes of a
pub record JobOfSome (e : End) (a b : State) : Type 0 where
  pub bytes : List ℕ
  pub same : b ≡ job_by e a bytes

-- a run from before the first byte to the end of the input
abbrev pub ReadsJob : Run → Ended → Lent Float → Lent Float → Type 0
ReadsJob start r cells rings = JobOfSome r.end (state start cells.entry.now rings.entry.now) (state r.run cells.exit.now rings.exit.now)
