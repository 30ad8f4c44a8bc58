-- What a read tells of the bytes that it brings. Assumes nothing.
use Rattle.std.specs.Prelude.{ℕ, Bool, true, false}
use Rattle.streams.specs.declared.Got.{Got}
use Rattle.streams.specs.declared.Got.TheVariants as got

-- how many bytes a read brings
abbrev pub brought_by : Got → ℕ
brought_by (got.Bytes n) = n
brought_by got.End = 0
brought_by got.Cut = 0

abbrev pub may_be_more : Got → Bool
may_be_more (got.Bytes n) = true
may_be_more got.End = false
may_be_more got.Cut = false

-- how many bytes of an unfinished line the input ends with; cut off, it ends inside its next line
abbrev pub held_by : Got → ℕ → ℕ
held_by got.End n = n
held_by got.Cut n = 1
held_by (got.Bytes k) n = 1
