-- What moves between a reader or a writer and lent bytes, as far as a contract can say it. Assumes nothing.
use Rattle.std.specs.Prelude.{ℕ, ◌≤◌, ◌≡◌, true, false, List, ◌++◌, length, take}
use Rattle.io.specs.Counts.{IsPrefixLen}
use Rattle.streams.specs.declared.Got.{Got}
use Rattle.streams.specs.declared.Got.TheVariants as got
use Rattle.streams.specs.declared.Took.{Took}
use Rattle.streams.specs.declared.Took.TheVariants as took
use Rattle.streams.specs.declared.Out.{Out}

-- the bytes that a read brings stand at the front of the buffer
abbrev pub Reads : Got → List ℕ → Type 0
Reads (got.Bytes n) buf = IsPrefixLen n buf
Reads got.End buf = Unit {0}
Reads got.Cut buf = Unit {0}

-- a write takes no more than it is handed
abbrev pub Takes : Took → List ℕ → Type 0
Takes (took.Bytes n) bytes = n ≤ length bytes
Takes took.Nothing bytes = Unit {0}
Takes took.Failed bytes = Unit {0}

-- the first m of a full buffer's bytes are its first n
abbrev pub SameFront : ℕ → ℕ → Type 0
SameFront m n = (buf : List ℕ) → length buf ≡ 65536 → take m buf ≡ take n buf

-- p' is the end of p with bytes behind it: none is held twice, and what is no longer held stood before it. That it was written no contract can say
pub record Gathers (p bytes p' : List ℕ) : Type 0 where
  pub handed : List ℕ
  pub split : handed ++ p' ≡ p ++ bytes

-- bytes put behind those that are gathered at the front of a buffer. After a write that failed nothing more is put or written
pub record Puts (out : Out) (buf bytes : List ℕ) (r : Out) (buf' : List ℕ) : Type 0 where
  pub stopped : out.failed ≡ true → r.failed ≡ true
  pub gathers : r.failed ≡ false → Gathers (take out.len buf) bytes (take r.len buf')
