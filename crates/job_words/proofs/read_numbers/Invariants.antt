-- `job_words::read_numbers` meets its contract. Assumes nothing.
use Rattle.std.proofs.Common.{◌≡◌, ℕ, ◌+◌, ◌<◌, length, get_or, drop}
use lib.Ieee.{nan}
use Rattle.job_words.specs.Kind.{fields_of, at, all_numbers, numbers}
use Rattle.job_words.proofs.read_numbers.Given as goal

abbrev pub invariant-loop-i : goal.invariant-loop-i
invariant-loop-i g l = (length (fields_of l.s) ≡ l.k + g.row.N)
    × (numbers (fields_of l.s) l.k g.row.N ≡ all_numbers (drop (l.k + l.i) (fields_of l.s)))
    × (length l.xs ≡ g.row.N)
    × ((j : ℕ) → j < l.i → get_or l.xs j nan ≡ at (fields_of l.s) (l.k + j))
