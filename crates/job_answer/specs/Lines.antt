-- The lines of a job's answer; that of a ring is `ring_line` of `text`. Assumes nothing.
use Rattle.std.specs.Prelude.{ℕ, List, [], ◌∷◌, ◌++◌, Float}
use Rattle.text.specs.Digits.{decimal_of}
use Rattle.text.specs.Lines.{newline, four_fields}

-- `cell`, the index, and outer and inner bounds, lower first
unfoldable pub cell_line : ℕ → Float → Float → Float → Float → List ℕ
cell_line i a b c d = (99 ∷ 101 ∷ 108 ∷ 108 ∷ 9 ∷ []) ++ (decimal_of i ++ four_fields a b c d)

-- `gen` and the generation
unfoldable pub gen_line : ℕ → List ℕ
gen_line n = (103 ∷ 101 ∷ 110 ∷ 9 ∷ []) ++ (decimal_of n ++ newline)

-- `refused`, the line's number and the refusal's
unfoldable pub refused_line : ℕ → ℕ → List ℕ
refused_line k n = (114 ∷ 101 ∷ 102 ∷ 117 ∷ 115 ∷ 101 ∷ 100 ∷ 9 ∷ []) ++ (decimal_of k ++ ((9 ∷ []) ++ (decimal_of n ++ newline)))
